use Rattle.std.proofs.Common.{◌≡◌, length, vec_len, Some, refl, ap, sym, ◌∙◌, arith, rules}
use Rattle.std.specs.Prelude.{slice_get}
use Rattle.std.proofs.lemmas.Option.{slice_get_read, slice_get_within}
use Rattle.ml_stack.specs.Memories.{code_of}
use Rattle.ml_stack.specs.declared.frame.CodeName.TheVariants.{OfClause}
use Rattle.ml_program.specs.LoadedProgram.{procedures_of}
use Rattle.ml_program.proofs.ProceduresRead.{found_code, code_read}
use Rattle.ml_program.proofs.loaded.Loaded.code_of.Goals as goal

pub index-requires-in-OfClause : goal.index-requires-in-OfClause
index-requires-in-OfClause c =
    let e = ap (λ v. code_of (procedures_of v) c.requires.0 (OfClause c.in-OfClause.procedure c.in-OfClause.clause)) c.self.view_is
    ∙ ap (code_of (procedures_of c.args.self.now) c.requires.0) (sym c.in-OfClause.is) ∙ c.requires.3 in
    let found = found_code c.self.inside.program.value c.self.inside.procedures.items c.requires.0 c.in-OfClause.procedure c.in-OfClause.clause c.requires.1
    c.index.result.now e c.index.ensures in
    let len : vec_len c.index.result.now.procedure.codes ≡ length c.index.result.now.procedure.codes.items = search rules in
    omega (arith, len, slice_get_within c.index.result.now.procedure.codes.items c.in-OfClause.clause c.requires.1 found.1)

pub returns-in-OfClause : goal.returns-in-OfClause
returns-in-OfClause c =
    let e = ap (λ v. code_of (procedures_of v) c.requires.0 (OfClause c.in-OfClause.procedure c.in-OfClause.clause)) c.self.view_is
    ∙ ap (code_of (procedures_of c.args.self.now) c.requires.0) (sym c.in-OfClause.is) ∙ c.requires.3 in
    let found = found_code c.self.inside.program.value c.self.inside.procedures.items c.requires.0 c.in-OfClause.procedure c.in-OfClause.clause c.requires.1
    c.index.result.now e c.index.ensures in
    let codes = c.index.result.now.procedure.codes.items in
    let there : slice_get codes c.in-OfClause.clause ≡ Some c.index-in-OfClause.result.now =
    slice_get_read codes (length codes) c.in-OfClause.clause c.index-in-OfClause.result.now refl
    (slice_get_within codes c.in-OfClause.clause c.requires.1 found.1)
    c.index-in-OfClause.ensures in
    λ M same.
    ap (code_of (procedures_of c.args.self.now) M) c.in-OfClause.is
    ∙ sym (ap (λ v. code_of (procedures_of v) M (OfClause c.in-OfClause.procedure c.in-OfClause.clause)) c.self.view_is)
    ∙ code_read c.self.inside.program.value c.self.inside.procedures.items M c.in-OfClause.procedure c.in-OfClause.clause c.index.result.now found.0
    ∙ there
    ∙ ap Some (sym c.as_slice.ensures)

pub bounds-called-place : goal.bounds-called-place
bounds-called-place c =
    let e = ap (λ l. slice_get l c.in-Called.place) (sym c.requires.2)
    ∙ ap (code_of (procedures_of c.args.self.now) c.requires.0) (sym c.in-Called.is) ∙ c.requires.3 in
    slice_get_within c.args.called.now c.in-Called.place c.requires.1 e

pub returns-in-Called : goal.returns-in-Called
returns-in-Called c =
    let e = ap (λ l. slice_get l c.in-Called.place) (sym c.requires.2)
    ∙ ap (code_of (procedures_of c.args.self.now) c.requires.0) (sym c.in-Called.is) ∙ c.requires.3 in
    λ M same.
    ap (code_of (procedures_of c.args.self.now) M) c.in-Called.is
    ∙ ap (λ l. slice_get l c.in-Called.place) same
    ∙ slice_get_read c.args.called.now (length c.args.called.now) c.in-Called.place c.index-called-place.result refl
    (slice_get_within c.args.called.now c.in-Called.place c.requires.1 e) c.index-called-place.is
    ∙ ap Some (sym c.as_slice-in-Called.ensures)
