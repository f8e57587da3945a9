-- Beginnings of lists of bits, and of what they may hold.
use Rattle.std.specs.Prelude.{◌≡◌, ℕ, ◌+◌, ◌^◌, ◌<◌, ◌↔◌, ◌⊎◌, Bool, true, List, [], ◌∷◌, length, take, Option, Some, None}
use Rattle.std.proofs.Common.{refl, sym, ap, ◌∙◌, inl, inr}
use Rattle.std.proofs.lemmas.Bool.{and_parts, or_cases}
use Rattle.ml_bits.specs.BitList.{Begins}
use Rattle.ml_term.specs.declared.declaration.Kind.{Kind}
use Rattle.ml_term.specs.declared.declaration.Kind.TheVariants.{Relation, Clauses}
use Rattle.ml_term.specs.Codes.{variable_code}
use Rattle.ml_term.specs.Patterns.{same_bit, begins, attribute, fits, may_hold_at, may_hold_from, may_hold}
use Rattle.ml_term.specs.Keys.{argument, arguments}
use Rattle.ml_term.specs.Tree.{Tree}
use Rattle.ml_term.specs.Valid.{is_valid}
use Rattle.ml_term.proofs.KeyColumns.{same_bit_itself, same_bit_equal, column_begins}
use Rattle.ml_term.proofs.FittingKeys.{or_first, or_second, and_both, prefix_holds}
use Rattle.ml_term.proofs.KeysApart.{tuples_apart, clauses_apart}
use Rattle.ml_key.specs.ItemKeys.{item_key}

pub begun : (front whole : List Bool) → begins front whole ≡ true → Begins front whole
begun [] whole h = refl
begun (b ∷ front) [] h = absurd (cc h)
begun (b ∷ front) (c ∷ whole) h =
    let parts = and_parts (same_bit b c) (begins front whole) h in
    let rest : take (length front) whole ≡ front = begun front whole parts.1 in
    let first : c ≡ b = sym (same_bit_equal b c parts.0) in
    cc

pub begins_so : (front whole : List Bool) → Begins front whole → begins front whole ≡ true
begins_so [] whole h = refl
begins_so (b ∷ front) [] h = absurd (cc h)
begins_so (b ∷ front) (c ∷ whole) h =
    let first : c ≡ b = cc h in
    let rest : take (length front) whole ≡ front = cc h in
    and_both (same_bit b c) (begins front whole) (ap (same_bit b) first ∙ same_bit_itself b) (begins_so front whole rest)

pub same_beginnings : (front whole : List Bool) → (begins front whole ≡ true) ↔ Begins front whole
same_beginnings front whole = (begun front whole, begins_so front whole)

begins_through : (xs ys zs : List Bool) → begins xs ys ≡ true → begins ys zs ≡ true → begins xs zs ≡ true
begins_through [] ys zs h k = refl
begins_through (x ∷ xs) [] zs h k = absurd (cc h)
begins_through (x ∷ xs) (y ∷ ys) [] h k = absurd (cc k)
begins_through (x ∷ xs) (y ∷ ys) (z ∷ zs) h k =
    let p = and_parts (same_bit x y) (begins xs ys) h in
    let q = and_parts (same_bit y z) (begins ys zs) k in
    let same : x ≡ z = same_bit_equal x y p.0 ∙ same_bit_equal y z q.0 in
    and_both (same_bit x z) (begins xs zs) (ap (same_bit x) (sym same) ∙ same_bit_itself x) (begins_through xs ys zs p.1 q.1)

shorter_at : (p : Option (List Bool)) (part whole : List Bool) → begins part whole ≡ true → may_hold_at p whole ≡ true → may_hold_at p part ≡ true
shorter_at None part whole b h = refl
shorter_at (Some asked) part whole b h = by (or_cases (begins whole asked) (begins whole variable_code) h)
  where
    by : (begins whole asked ≡ true) ⊎ (begins whole variable_code ≡ true) → may_hold_at (Some asked) part ≡ true
    by (inl e) = or_first (begins part asked) (begins part variable_code) (begins_through part whole asked b e)
    by (inr e) = or_second (begins part asked) (begins part variable_code) (begins_through part whole variable_code b e)

shorter_from : (a i : ℕ) (ps : List (Option (List Bool))) (prefix longer : List Bool) → begins prefix longer ≡ true → may_hold_from a i ps longer ≡ true
    → may_hold_from a i ps prefix ≡ true
shorter_from a i [] prefix longer b h = refl
shorter_from a i (p ∷ ps) prefix longer b h =
    let parts = and_parts (may_hold_at p (attribute a i longer)) (may_hold_from a (i + 1) ps longer) h in
    and_both (may_hold_at p (attribute a i prefix)) (may_hold_from a (i + 1) ps prefix)
    (shorter_at p (attribute a i prefix) (attribute a i longer) (column_begins 64 a i prefix longer b) parts.0)
    (shorter_from a (i + 1) ps prefix longer b parts.1)

-- what a longer prefix may hold, a shorter one may
pub shorter_holds : (pattern : List (Option (List Bool))) (prefix longer : List Bool) → Begins prefix longer → may_hold pattern longer ≡ true →
    may_hold pattern prefix ≡ true
shorter_holds pattern prefix longer b h = shorter_from (length pattern) 0 pattern prefix longer (begins_so prefix longer b) h

-- the owner of a fitting key may hold it
pub owner_holds : (pattern : List (Option (List Bool))) (prefix key : List Bool) → fits pattern key ≡ true → Begins prefix key → may_hold pattern prefix ≡ true
owner_holds pattern prefix key h b = prefix_holds pattern prefix key (begins_so prefix key b) h

pub tuples_differ : (kind : Kind) → kind ≡ Relation → (keys : List ℕ) (t u : Tree) (m n : ℕ) → is_valid t ≡ true → is_valid u ≡ true
    → Begins (item_key kind keys t m) (item_key kind keys u n) → t ≡ u
tuples_differ Relation e keys t u m n p q b = tuples_apart keys t u p q (begins_so (item_key Relation keys t m) (item_key Relation keys u n) b)
tuples_differ Clauses e keys t u m n p q b = absurd (cc e)

pub clauses_differ : (kind : Kind) → kind ≡ Clauses → (keys : List ℕ) (t u : Tree) (m n : ℕ) → m < 2 ^ 64 → n < 2 ^ 64
    → Begins (item_key kind keys t m) (item_key kind keys u n) → m ≡ n
clauses_differ Relation e keys t u m n p q b = absurd (cc e)
clauses_differ Clauses e keys t u m n p q b = clauses_apart keys (argument 1 (arguments t)) (argument 1 (arguments u)) m n p q
    (begins_so (item_key Clauses keys t m) (item_key Clauses keys u n) b)
