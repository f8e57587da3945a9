use Rattle.std.proofs.Common.{rules, arith, ap, sym, ◌∙◌, ◌≡◌, ◌+◌, ◌∷◌, ◌++◌, ℕ, List, length, length-append, SFits, w64}
use Rattle.std.specs.Int.{to_be_bytes}
use Rattle.std.proofs.lemmas.Int.{to_z-of_z}
use Rattle.ml_term.specs.CanonicalBytes.{bytes_of, bytes_of_all, counted_from_smallest, name_bytes}
use Rattle.ml_term.specs.Codes.{byte_bits}
use Rattle.ml_term.specs.Seen.{all_seen, seen}
use Rattle.ml_term.specs.Tree.{variable, integer, compound, arity, trees_of}
use Rattle.ml_term.proofs.TermSizes.{arity_of_trees, nodes_above_zero}
use Rattle.ml_term.proofs.CompoundTrees.{seen_integer, seen_compound}
use Rattle.ml_key.specs.inside.Extension.{extend_list}
use Rattle.ml_key.proofs.GrowingLists.{room_after, bytes_twice}
use Rattle.ml_key.proofs.KeyParts.{seen_variable}
use Rattle.ml_key.proofs.canonical.+append_term.Goals as goal

pub append_term-returns-in-Var : goal.append_term-returns-in-Var
append_term-returns-in-Var t c =
    let is : seen c.args.t.now ≡ variable c.in-Var.n = ap seen c.in-Var.is ∙ seen_variable _ in
    let bytes : 0 ∷ c.to_be_bytes.result ≡ bytes_of (seen c.args.t.now) = ap (λ bs. 0 ∷ bs) c.to_be_bytes.ensures ∙ sym (ap bytes_of is) in
    c.append_tagged.ensures ∙ ap (λ bs. extend_list c.args.list.now (byte_bits bs)) bytes

pub append_term-returns-in-Int : goal.append_term-returns-in-Int
append_term-returns-in-Int t c =
    let is : seen c.args.t.now ≡ integer c.in-Int.v = ap seen c.in-Int.is ∙ seen_integer _ in
    let fits : SFits w64 c.in-Int.v = search rules in
    let counts : c.counted_from_smallest.result ≡ counted_from_smallest c.in-Int.v = simp to_z-of_z at c.counted_from_smallest.ensures.same in
    let bytes : 1 ∷ c.to_be_bytes-in-Int.result ≡ bytes_of (seen c.args.t.now) =
    ap (λ bs. 1 ∷ bs) (c.to_be_bytes-in-Int.ensures ∙ ap (to_be_bytes w64) counts) ∙ sym (ap bytes_of is) in
    c.append_tagged-in-Int.ensures ∙ ap (λ bs. extend_list c.args.list.now (byte_bits bs)) bytes

pub append_term-append_terms-requires : goal.append_term-append_terms-requires
append_term-append_terms-requires t c =
    let ts = trees_of (all_seen c.in-Cmp.ts) in
    let args = trees_of (all_seen c.as_slice-args.result.now) in
    let same : args ≡ ts = ap (λ us. trees_of (all_seen us)) c.as_slice-args.ensures.same in
    let is : seen c.args.t.now ≡ compound c.in-Cmp.f ts = ap seen c.in-Cmp.is ∙ seen_compound _ _ in
    let front : List ℕ = 3 ∷ length c.as_slice-args.result.now ∷ name_bytes c.in-Cmp.f in
    let long : length (bytes_of (seen c.args.t.now)) ≡ length front + length (bytes_of_all args) =
    ap (λ u. length (bytes_of u)) is ∙ length-append (3 ∷ arity ts ∷ name_bytes c.in-Cmp.f) (bytes_of_all ts)
    ∙ sym (ap (λ us. length front + length (bytes_of_all us)) same) in (
      search rules,
      (
        search rules,
        room_after c.args.list.now c.append_named-in-Cmp.new.list front (length (bytes_of_all args))
            (length (bytes_of (seen c.args.t.now))) c.append_named-in-Cmp.ensures long c.requires.room,
      ),
    )

pub append_term-returns-in-Cmp : goal.append_term-returns-in-Cmp
append_term-returns-in-Cmp t c =
    let ts = trees_of (all_seen c.in-Cmp.ts) in
    let args = trees_of (all_seen c.as_slice-args.result.now) in
    let same : args ≡ ts = ap (λ us. trees_of (all_seen us)) c.as_slice-args.ensures.same in
    let is : seen c.args.t.now ≡ compound c.in-Cmp.f ts = ap seen c.in-Cmp.is ∙ seen_compound _ _ in
    let many : length c.as_slice-args.result.now ≡ arity ts = ap length c.as_slice-args.ensures.same ∙ sym (arity_of_trees seen c.in-Cmp.ts) in
    let front : List ℕ = 3 ∷ length c.as_slice-args.result.now ∷ name_bytes c.in-Cmp.f in
    let both : front ++ bytes_of_all args ≡ bytes_of (seen c.args.t.now) =
    ap (λ n. (3 ∷ n ∷ name_bytes c.in-Cmp.f) ++ bytes_of_all args) many
    ∙ ap (λ us. (3 ∷ arity ts ∷ name_bytes c.in-Cmp.f) ++ bytes_of_all us) same
    ∙ sym (ap bytes_of is) in
    bytes_twice c.args.list.now c.append_named-in-Cmp.new.list c.append_terms.new.list front (bytes_of_all args)
    (bytes_of (seen c.args.t.now)) c.append_named-in-Cmp.ensures c.append_terms.ensures both

pub append_terms-append_terms-requires : goal.append_terms-append_terms-requires
append_terms-append_terms-requires t c =
    let first = bytes_of (seen c.in-Some.t.now) in
    let rest = bytes_of_all (trees_of (all_seen c.in-Some.rest.now)) in
    let all = bytes_of_all (trees_of (all_seen c.args.ts.now)) in
    let is : c.args.ts.now ≡ c.in-Some.t.now ∷ c.in-Some.rest.now = search rules in
    let long : length all ≡ length first + length rest = ap (λ us. length (bytes_of_all (trees_of (all_seen us)))) is ∙ length-append first rest in (
      grind (arith, nodes_above_zero),
      (search rules, room_after c.args.list.now c.append_term.new.list first (length rest) (length all) c.append_term.ensures long c.requires.room),
    )
