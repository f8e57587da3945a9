-- A term that is the same with new numbers from 0 is numbered from 0.
use Rattle.std.proofs.Common.{◌≡◌, true, refl, sym, ◌∙◌, subst, true≢false, arith}
use Rattle.std.specs.Prelude.{◌==◌}
use Rattle.std.specs.Cmp.Lexicographic.{slice_cmp}
use Rattle.std.specs.Ordering.{nat_cmp, ordering_index}
use Rattle.std.specs.declared.cmp.Ordering.{Ordering}
use Rattle.std.specs.declared.cmp.Ordering.TheVariants.{Less, Equal, Greater}
use Rattle.std.proofs.lemmas.Map.Lookups.{exact_bytes}
use Rattle.ml_search.proofs.Unifying.VariableCounts.{width_within}
use Rattle.ml_term.proofs.KeysTellTuples.{bytes_tell}
use Rattle.ml_term.proofs.VariableNumbering.{renamed_counts}
use Rattle.ml_term.specs.CanonicalBytes.{bytes_of}
use Rattle.ml_term.specs.Seen.{seen}
use Rattle.ml_term.specs.Tree.{Tree, is_numbered, rename}
use Rattle.ml_term.specs.Valid.{is_valid}
use Rattle.ml_list_desk_rows.proofs.terms.is_numbered.Goals as goal

same_numbered : (t u : Tree) → is_valid t ≡ true → is_valid u ≡ true → u ≡ rename 0 t → slice_cmp nat_cmp (bytes_of t) (bytes_of u) ≡ Equal →
    is_numbered t ≡ true
same_numbered t u p q e o =
    let same : t ≡ u = bytes_tell t u p q (exact_bytes _ _ o) in
    subst (λ x. is_numbered x ≡ true) (sym (same ∙ e)) (renamed_counts 0 t)

equal_index : (o : Ordering) → (ordering_index o == 1) ≡ true → o ≡ Equal
equal_index Less e = absurd (true≢false (sym e))
equal_index Equal e = refl
equal_index Greater e = absurd (true≢false (sym e))

pub rename-requires-clause-room : goal.rename-requires-clause-room
rename-requires-clause-room c = omega (arith, width_within (seen c.args.t.now))

pub returns : goal.returns
returns c same =
    same_numbered (seen c.args.t.now) (seen c.in_ok-numbered.numbered) c.requires.valid c.in_ok-numbered.ensures.valid c.in_ok-numbered.ensures.same
    (sym c.canonical_cmp.ensures ∙ equal_index _ (sym c.eq.ensures ∙ same))
