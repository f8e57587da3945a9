use Rattle.std.proofs.Common.{◌∙◌, ◌∷◌, [], ap, refl, ℕ, Bool}
use Rattle.std.specs.List.{list_all}
use Rattle.std.proofs.lemmas.Bool.{and_from}
use Rattle.std.proofs.lemmas.List.Folds.{list_all-append}
use Rattle.ml_term.specs.Seen.{seen}
use Rattle.ml_term.specs.Valid.{is_valid}
use Rattle.ml_term.specs.declared.term.Term.{Term}
use Rattle.ml_search.specs.inside.Triangular.{map_of}
use Rattle.ml_search.specs.inside.Unifying.{bindings_of}
use Rattle.ml_search.proofs.Unifying.TermsResolved.{built_more}
use Rattle.ml_search.proofs.unification.resolve.map_from.Goals as goal

pub loop-i-preserved : goal.loop-i-preserved
loop-i-preserved c =
    let v = c.binding_at-binding.result.variable in
    let u = c.in_ok-term.term in
    let ps = c.loop-i.pairs.items in
    let p : ℕ × Term → Bool = λ b. is_valid (seen b.1) in
    record {
      same =
          built_more (map_of (bindings_of c.args.bindings.now.entries)) c.args.bindings.now.entries c.loop-i.i v
          c.binding_at-binding.result.to ps c.push.new.self.items u c.binding_at-binding.ensures.is c.in_ok-push.ensures.items
          c.in_ok-term.ensures.same c.loop-i.invariant.same;
      valid =
          ap (list_all p) c.in_ok-push.ensures.items ∙ list_all-append p ps ((v, u) ∷ [])
          ∙ and_from _ _ c.loop-i.invariant.valid (and_from _ _ c.in_ok-term.ensures.valid refl);
    }
