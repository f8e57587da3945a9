use Rattle.std.proofs.Common.{◌≡◌, MatchOption, None, subst}
use Rattle.ml_program.specs.DeclaredLists.{IsDeclaredAs}
use Rattle.ml_program.specs.LoadedProgram.{LoadedProgram, procedures_of, program_of}
use Rattle.ml_program.specs.inside.Linking.{loaded_seen}
use Rattle.ml_search.specs.Program.{declaration_of}
use Rattle.ml_program.proofs.loaded.Loaded.declared.Goals as goal

pub returns : goal.returns
returns c =
    let f = c.args.pred.now.name in
    let n = c.args.pred.now.arity in
    subst
    (λ (l : LoadedProgram).
    MatchOption c.declared.result (declaration_of (program_of l).decls f n ≡ None) (λ found. IsDeclaredAs (program_of l).decls f n found.0 found.1))
    c.self.view_is
    (c.declared.ensures (program_of (loaded_seen c.self.inside.program.value c.self.inside.procedures.items))
    (procedures_of (loaded_seen c.self.inside.program.value c.self.inside.procedures.items)) c.self.invariant.tables)
