use Rattle.std.proofs.Common.{◌<◌, length, get_or, ap, ◌∙◌, arith}
use Rattle.ml_stack.specs.Memories.{code_of}
use Rattle.ml_stack.specs.declared.frame.CodeName.TheVariants.{OfClause}
use Rattle.ml_program.specs.Links.{link_of}
use Rattle.ml_program.specs.LoadedProgram.{procedures_of, program_of}
use Rattle.ml_program.proofs.ProceduresRead.{link_kept}
use Rattle.ml_program.proofs.loaded.Loaded.kept_link.Goals as goal

pub returns-in-Some : goal.returns-in-Some
returns-in-Some c =
    let p = c.args.procedure in
    let k = c.args.clause in
    let place = c.args.place in
    let x = c.in_ok-linked.linked.now in
    let beside = c.in_ok-links.links.now in
    let link = c.in-Some.link.now in
    let within : k < length x.links.items = omega (arith, c.in_ok-links.ensures.lookup.3.0, ap length c.deref-2.ensures.value) in
    let inside : place < length beside = omega (arith, c.in-Some.ensures.lookup.3.0, ap length c.as_slice.ensures) in
    λ M code g e s.
    link_kept c.self.inside.program.value c.self.inside.procedures.items c.self.invariant.linked M p k place code g x beside link
    (ap (λ v. code_of (procedures_of v) M (OfClause p k)) c.self.view_is ∙ e) s
    (c.in_ok-linked.ensures.lookup.1 ∙ ap (λ l. get_or l p x) c.deref.ensures.value)
    (c.in_ok-links.ensures.lookup.1 ∙ ap (λ l. get_or l k beside) c.deref-2.ensures.value) within
    (c.in-Some.ensures.lookup.1 ∙ ap (λ l. get_or l place link) c.as_slice.ensures) inside
    ∙ ap (λ v. link_of (program_of v) (procedures_of v) g.name g.arity) c.self.view_is
