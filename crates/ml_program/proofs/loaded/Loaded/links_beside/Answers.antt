use Rattle.std.proofs.Common.{map, ap, ◌∙◌}
use Rattle.ml_search.specs.ProgramSeen.{program_seen}
use Rattle.ml_program.specs.Links.{link_beside}
use Rattle.ml_program.specs.LoadedProgram.{procedures_of, program_of}
use Rattle.ml_program.specs.inside.Linking.{loaded_seen}
use Rattle.ml_program.proofs.loaded.Loaded.links_beside.Goals as goal

pub returns : goal.returns
returns c =
    let program = c.self.inside.program.value in
    let ls = c.self.inside.procedures.items in
    c.in_ok-links.ensures (program_seen program) (procedures_of (loaded_seen program ls)) c.self.invariant.tables
    ∙ ap (λ v. map (link_beside (program_of v) (procedures_of v)) c.args.code.now) c.self.view_is
