use Rattle.std.proofs.Common.{◌≡◌, None, IsSome, refl, sym, subst}
use Rattle.ml_term.specs.declared.declaration.Decl.{Decl}
use Rattle.ml_term.specs.Seen.{seen}
use Rattle.ml_search.specs.Program.{place_of}
use Rattle.ml_reader.specs.Declarations.{Declares}
use Rattle.ml_reader.specs.Forms.{directive, form}
use Rattle.ml_reader.specs.inside.rules.RulesSteps.{Becomes, no_directive, adds_one, IsWrong, declares_nothing, declares_again}
use Rattle.ml_reader.specs.Seen.{read_seen}
use Rattle.ml_reader.proofs.RuleReading.DeclarationsInOrder.{same_fault, directive_is}
use Rattle.ml_reader.proofs.rules.rules_of.declare.Goals as goal

pub returns-in-None-clause-ok : goal.returns-in-None-clause-ok
returns-in-None-clause-ok c = no_directive (sym c.in-None.ensures)

pub returns-in-None-2-clause-fault : goal.returns-in-None-2-clause-fault
returns-in-None-2-clause-fault c = λ f e.
    let t = seen c.in-Some.t.now in
    let is : form (seen c.args.read.now.term) ≡ directive t = directive_is _ t (sym c.in-Some.ensures) in
    let none : (d : Decl) → Declares t d → ⊥ = rw c.in-None-2.is at c.in_ok-declaration-in-Some.ensures.declared in
    subst (IsWrong (read_seen c.args.read.now) c.args.decls.now) (same_fault c.stop_at.result f _ c.stop_at.ensures e) (declares_nothing t is none)

pub returns-in_ok-add-in-None-place_of-clause-ok : goal.returns-in_ok-add-in-None-place_of-clause-ok
returns-in_ok-add-in-None-place_of-clause-ok c =
    let t = seen c.in-Some.t.now in
    let d = c.in-Some-2.decl in
    let ds = c.args.decls.now in
    let is : form (seen c.args.read.now.term) ≡ directive t = directive_is _ t (sym c.in-Some.ensures) in
    let declares : Declares t d = rw c.in-Some-2.is at c.in_ok-declaration-in-Some.ensures.declared in
    let other : place_of ds d.pred.name d.pred.arity ≡ None = sym c.in-None-place_of.ensures.same in
    subst (Becomes (read_seen c.args.read.now) ds) (sym c.in_ok-add-in-None-place_of.ensures.ok) (adds_one t d is declares other)

pub returns-in-Some-place_of-clause-fault : goal.returns-in-Some-place_of-clause-fault
returns-in-Some-place_of-clause-fault c = λ f e.
    let t = seen c.in-Some.t.now in
    let d = c.in-Some-2.decl in
    let ds = c.args.decls.now in
    let is : form (seen c.args.read.now.term) ≡ directive t = directive_is _ t (sym c.in-Some.ensures) in
    let declares : Declares t d = rw c.in-Some-2.is at c.in_ok-declaration-in-Some.ensures.declared in
    let there : IsSome (place_of ds d.pred.name d.pred.arity) = subst IsSome c.in-Some-place_of.ensures.same refl in
    subst (IsWrong (read_seen c.args.read.now) ds) (same_fault c.stop_at-in-Some-place_of.result f _ c.stop_at-in-Some-place_of.ensures e)
    (declares_again t d is declares there)
