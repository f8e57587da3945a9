-- An atom that stands as a body, by the tests whether it is `true`, `fail` or `!`.
use Rattle.std.proofs.Common.{◌≡◌, true, false, [], codes, refl, ap, sym, ◌∙◌}
use Rattle.std.specs.Str.{bytes_eq}
use Rattle.ml_compile.specs.Spells.{called_body}
use Rattle.ml_compile.proofs.TermsBuilt.{builds_none}
use Rattle.ml_compile.proofs.BodiesTaken.{atom_true, atom_fail, atom_cut, atom_called, test_so}
use Rattle.ml_compile.proofs.BodiesSpelled.{spells_true, spells_fail, spells_cut, spells_call, spelled_so}
use Rattle.ml_compile.proofs.body.spell_atom.Goals as goal

pub returns-then-eq : goal.returns-then-eq
returns-then-eq c =
    let name = c.args.name.now in
    let is : bytes_eq name (codes "true") ≡ true = test_so _ _ _ _ _ _ c.as_slice-bytes.ensures.same c.as_slice.ensures c.eq.ensures c.if-eq.true in
    spelled_so _ _ _ _ _ (atom_true name is) c.in_ok-push.ensures.items (spells_true _)

pub returns-then-eq-2 : goal.returns-then-eq-2
returns-then-eq-2 c =
    let name = c.args.name.now in
    let no : bytes_eq name (codes "true") ≡ false = test_so _ _ _ _ _ _ c.as_slice-bytes.ensures.same c.as_slice.ensures c.eq.ensures c.if-eq.false in
    let is : bytes_eq name (codes "fail") ≡ true = test_so _ _ _ _ _ _ c.as_slice-bytes.ensures.same c.as_slice-2.ensures c.eq-2.ensures c.if-eq-2.true in
    spelled_so _ _ _ _ _ (atom_fail name no is) c.in_ok-push-2.ensures.items (spells_fail _)

pub returns-then-eq-3 : goal.returns-then-eq-3
returns-then-eq-3 c =
    let name = c.args.name.now in
    let no : bytes_eq name (codes "true") ≡ false = test_so _ _ _ _ _ _ c.as_slice-bytes.ensures.same c.as_slice.ensures c.eq.ensures c.if-eq.false in
    let nor : bytes_eq name (codes "fail") ≡ false = test_so _ _ _ _ _ _ c.as_slice-bytes.ensures.same c.as_slice-2.ensures c.eq-2.ensures c.if-eq-2.false in
    let is : bytes_eq name (codes "!") ≡ true = test_so _ _ _ _ _ _ c.as_slice-bytes.ensures.same c.as_slice-3.ensures c.eq-3.ensures c.if-eq-3.true in
    spelled_so _ _ _ _ _ (atom_cut name no nor is) c.in_ok-push-3.ensures.items (spells_cut _)

pub returns : goal.returns
returns c =
    let name = c.args.name.now in
    let no : bytes_eq name (codes "true") ≡ false = test_so _ _ _ _ _ _ c.as_slice-bytes.ensures.same c.as_slice.ensures c.eq.ensures c.if-eq.false in
    let nor : bytes_eq name (codes "fail") ≡ false = test_so _ _ _ _ _ _ c.as_slice-bytes.ensures.same c.as_slice-2.ensures c.eq-2.ensures c.if-eq-2.false in
    let neither : bytes_eq name (codes "!") ≡ false = test_so _ _ _ _ _ _ c.as_slice-bytes.ensures.same c.as_slice-3.ensures c.eq-3.ensures c.if-eq-3.false in
    let same : c.in_ok-name.name ≡ name = c.in_ok-name.ensures in
    spelled_so _ _ _ _ _ (atom_called name no nor neither ∙ ap (λ f. called_body f []) (sym same)) c.in_ok-push-4.ensures.items
    (spells_call _ _ _ [] (builds_none _) refl)
