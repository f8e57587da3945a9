use Rattle.std.proofs.Common.{rules, arith, ap, sym, ◌∙◌, ◌≡◌, ◌+◌, ◌*◌, ◌^◌, ◌<◌, true, false, ◌∷◌, min, length}
use Rattle.ml_term.specs.Tree.{integer, atom, compound, trees_of, arity}
use Rattle.ml_term.specs.CanonicalBytes.{counted_from_smallest}
use Rattle.ml_term.specs.Codes.{bits, byte_bits, code, pad}
use Rattle.ml_term.specs.Seen.{seen, all_seen}
use Rattle.std.proofs.Common.{SFits, w64}
use Rattle.std.proofs.lemmas.Int.{to_z-of_z}
use Rattle.ml_term.proofs.TermSizes.{arity_of_trees}
use Rattle.ml_term.proofs.CompoundTrees.{seen_integer, seen_atom, seen_compound}
use Rattle.ml_term.proofs.CodeWords.{integer_word, atom_word, compound_word}
use Rattle.ml_term.proofs.code.code_word.Goals as goal

pub returns-in-Int : goal.returns-in-Int
returns-in-Int c =
    let is : seen c.args.t.now ≡ integer c.in-Int.v = ap seen c.in-Int.is ∙ seen_integer _ in
    let fits : SFits w64 c.in-Int.v = search rules in
    let counts : c.counted_from_smallest.result ≡ counted_from_smallest c.in-Int.v = simp to_z-of_z at c.counted_from_smallest.ensures.same in
    let word : c.join_bits.result ≡ 1 * 2 ^ 62 + c.counted_from_smallest.result = c.join_bits.ensures in
    ap (bits 64) word
    ∙ integer_word c.counted_from_smallest.result c.counted_from_smallest.ensures.below
    ∙ ap (λ n. false ∷ true ∷ bits 62 n) counts
    ∙ sym (ap code is)

pub returns-in-Atom : goal.returns-in-Atom
returns-in-Atom c =
    let is : seen c.args.t.now ≡ atom c.in-Atom.f = ap seen c.in-Atom.is ∙ seen_atom _ in
    let word : c.join_bits-in-Atom-2.result ≡ (2 * 2 ^ 56 + c.name_word.result) * 2 ^ 6 + c.length_word.result =
    c.join_bits-in-Atom-2.ensures ∙ ap (λ n. n * 2 ^ 6 + c.length_word.result) c.join_bits-in-Atom.ensures in
    let name : bits 56 c.name_word.result ≡ byte_bits (pad 7 c.in-Atom.f) =
    c.name_word.ensures.bits ∙ ap (λ f. byte_bits (pad 7 f)) c.as_slice-name.ensures.same in
    let long : c.length_word.result ≡ min (length c.in-Atom.f) 63 =
    c.length_word.ensures ∙ ap (λ f. min (length f) 63) c.as_slice-name.ensures.same in
    ap (bits 64) word ∙ atom_word c.name_word.result c.length_word.result c.in-Atom.f name c.name_word.ensures.below long ∙ sym (ap code is)

pub returns-in-Cmp : goal.returns-in-Cmp
returns-in-Cmp c =
    let f = c.in-Cmp.f in
    let ts = trees_of (all_seen c.in-Cmp.ts) in
    let is : seen c.args.t.now ≡ compound f ts = ap seen c.in-Cmp.is ∙ seen_compound _ _ in
    let w = c.name_word-in-Cmp.result in
    let n = c.length_word-in-Cmp.result in
    let shape : c.join_bits-shape.result ≡ 3 * 2 ^ 8 + arity ts =
    omega (arith, c.join_bits-shape.ensures, arity_of_trees seen c.in-Cmp.ts, ap length c.as_slice.ensures.same) in
    let word : c.join_bits-in-Cmp-2.result ≡ ((3 * 2 ^ 8 + arity ts) * 2 ^ 48 + w) * 2 ^ 6 + n =
    c.join_bits-in-Cmp-2.ensures ∙ ap (λ k. k * 2 ^ 6 + n) (c.join_bits-in-Cmp.ensures ∙ ap (λ k. k * 2 ^ 48 + w) shape) in
    let name : bits 48 w ≡ byte_bits (pad 6 f) = c.name_word-in-Cmp.ensures.bits ∙ ap (λ f. byte_bits (pad 6 f)) c.as_slice-name-in-Cmp.ensures.same in
    let long : n ≡ min (length f) 63 = c.length_word-in-Cmp.ensures ∙ ap (λ f. min (length f) 63) c.as_slice-name-in-Cmp.ensures.same in
    let few : arity ts < 2 ^ 8 = omega (arith, arity_of_trees seen c.in-Cmp.ts, c.as_slice.ensures.high) in
    ap (bits 64) word ∙ compound_word (arity ts) w n f few name c.name_word-in-Cmp.ensures.below long ∙ sym (ap code is)
