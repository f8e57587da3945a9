-- The key of an item that meets a pattern fits it, and so does what begins the key.
use Rattle.std.specs.Prelude.{◌≡◌, ℕ, zero, suc, ◌+◌, ◌-◌, ◌*◌, nat_le, Bool, true, false, ◌&&◌, ◌||◌, List, [], ◌∷◌, ◌++◌, map, length, drop, replicate, cond}
use Rattle.std.specs.Prelude.{min, Option, Some, None}
use Rattle.std.proofs.Common.{refl, sym, ap, ◌∙◌, subst, arith, append_assoc, length-append}
use Rattle.std.proofs.lemmas.List.{map-append, length-map, length-take-le, length-replicate}
use Rattle.ml_term.specs.Tree.{Tree, Trees, variable, integer, atom, compound, no_trees, tree, arity, substitute, substitute_in}
use Rattle.ml_term.specs.Codes.{bits, byte_bits, pad, length_bits, code, variable_code}
use Rattle.ml_term.specs.CanonicalBytes.{counted_from_smallest}
use Rattle.ml_term.specs.Keys.{argument, arguments, keyed_arguments, first_bit, interleave, key_head}
use Rattle.ml_term.specs.Patterns.{asked_code, pattern_of, same_bits, begins, attribute, fits_at, fits_from, fits, may_hold_at, may_hold_from, may_hold}
use Rattle.ml_term.specs.Instances.{HaveACommonInstance, is_head}
use Rattle.ml_term.proofs.Substitutions.{arity_kept}
use Rattle.ml_term.proofs.KeyColumns.{all_first_bits, column_interleaved, same_bits_itself, same_bits_equal, column_begins, and_first, and_second}

-- codes have 64 bits
pub length_of_bits : (k v : ℕ) → length (bits k v) ≡ k
length_of_bits zero v = refl
length_of_bits (suc k) v = ap suc (length_of_bits k v)

length_of_byte_bits : (f : List ℕ) → length (byte_bits f) ≡ 8 * length f
length_of_byte_bits [] = refl
length_of_byte_bits (b ∷ f) = omega (arith, length-append (bits 8 b) (byte_bits f), length_of_bits 8 b, length_of_byte_bits f)

length_of_padded : (k : ℕ) (f : List ℕ) → length (pad k f) ≡ k
length_of_padded k f = length-take-le k (f ++ replicate k 0) (omega (arith, length-append f (replicate k 0), length-replicate {A = ℕ} k 0))

pub length_of_code : (t : Tree) → length (code t) ≡ 64
length_of_code (variable n) = length_of_bits 64 0
length_of_code (integer z) = omega (arith, length_of_bits 62 (counted_from_smallest z))
length_of_code (atom f) = omega (
  arith,
  length-append (byte_bits (pad 7 f)) (length_bits f),
  length_of_byte_bits (pad 7 f),
  length_of_padded 7 f,
  length_of_bits 6 (min (length f) 63),
)
length_of_code (compound f ts) = omega (
  arith,
  length-append (bits 8 (arity ts) ++ byte_bits (pad 6 f)) (length_bits f),
  length-append (bits 8 (arity ts)) (byte_bits (pad 6 f)),
  length_of_bits 8 (arity ts),
  length_of_byte_bits (pad 6 f),
  length_of_padded 6 f,
  length_of_bits 6 (min (length f) 63),
)

-- one keyed place
pub or_second : (b c : Bool) → c ≡ true → (b || c) ≡ true
or_second true c h = refl
or_second false c h = h

pub or_first : (b c : Bool) → b ≡ true → (b || c) ≡ true
or_first true c h = refl
or_first false c h = absurd (cc h)

fits_same : (asked : List Bool) (found : List Bool) → found ≡ asked → fits_at (Some asked) found ≡ true
fits_same asked found e = or_first (same_bits found asked) (same_bits found variable_code) (rw e (same_bits_itself asked))

fits_variable : (p : Option (List Bool)) → fits_at p variable_code ≡ true
fits_variable None = refl
fits_variable (Some asked) = or_second (same_bits variable_code asked) (same_bits variable_code variable_code) (same_bits_itself variable_code)

-- terms with a common instance meet
pub codes_meet : (s r : ℕ → Tree) (p t : Tree) → substitute s p ≡ substitute r t → fits_at (asked_code p) (code t) ≡ true
codes_meet s r (variable n) t e = refl
codes_meet s r p (variable n) e = fits_variable (asked_code p)
codes_meet s r (integer y) (integer z) e = fits_same (code (integer y)) (code (integer z)) (ap code (sym e))
codes_meet s r (atom f) (atom g) e = fits_same (code (atom f)) (code (atom g)) (ap code (sym e))
codes_meet s r (compound f ts) (compound g us) e =
    let same : arity us ≡ arity ts = sym (arity_kept r us) ∙ (ap arity (cc e) ∙ arity_kept s ts) in
    let name : g ≡ f = cc e in
    fits_same (code (compound f ts)) (code (compound g us)) (rw (same, name) refl)
codes_meet s r (integer y) (atom g) e = absurd (cc e)
codes_meet s r (integer y) (compound g us) e = absurd (cc e)
codes_meet s r (atom f) (integer z) e = absurd (cc e)
codes_meet s r (atom f) (compound g us) e = absurd (cc e)
codes_meet s r (compound f ts) (integer z) e = absurd (cc e)
codes_meet s r (compound f ts) (atom g) e = absurd (cc e)

-- an argument of what a substitution gives
pub argument_of : (s : ℕ → Tree) (k : ℕ) (ts : Trees) → argument k (substitute_in s ts) ≡ substitute s (argument k ts)
argument_of s k no_trees = refl
argument_of s k (tree t ts) = chosen (nat_le k 1) (argument_of s (k - 1) ts)
  where
    chosen : (b : Bool) → argument (k - 1) (substitute_in s ts) ≡ substitute s (argument (k - 1) ts)
        → cond b (substitute s t) (argument (k - 1) (substitute_in s ts)) ≡ substitute s (cond b t (argument (k - 1) ts))
    chosen true e = refl
    chosen false e = e

arguments_of : (s r : ℕ → Tree) (p t : Tree) → is_head p ≡ true → is_head t ≡ true → substitute s p ≡ substitute r t →
    substitute_in s (arguments p) ≡ substitute_in r (arguments t)
arguments_of s r (variable n) t h k e = absurd (cc h)
arguments_of s r (integer y) t h k e = absurd (cc h)
arguments_of s r p (variable n) h k e = absurd (cc k)
arguments_of s r p (integer n) h k e = absurd (cc e)
arguments_of s r (atom f) (atom g) h k e = refl
arguments_of s r (atom f) (compound g us) h k e = absurd (cc e)
arguments_of s r (compound f ts) (atom g) h k e = absurd (cc e)
arguments_of s r (compound f ts) (compound g us) h k e = cc e

-- at every number the two arguments meet
arguments_meet : (s r : ℕ → Tree) (p t : Tree) → is_head p ≡ true → is_head t ≡ true → substitute s p ≡ substitute r t → (k : ℕ)
    → fits_at (asked_code (argument k (arguments p))) (code (argument k (arguments t))) ≡ true
arguments_meet s r p t h i e k =
    codes_meet s r (argument k (arguments p)) (argument k (arguments t))
    (sym (argument_of s k (arguments p)) ∙ (ap (argument k) (arguments_of s r p t h i e) ∙ argument_of r k (arguments t)))

-- the place of a keyed argument's code in a key
pub attribute_at : (xs : List (List Bool)) (t : Tree) (ys : List (List Bool)) (tail : List Bool) (a i : ℕ) → a ≡ length (xs ++ code t ∷ ys) → i ≡ length xs
    → attribute a i (interleave 64 (xs ++ code t ∷ ys) ++ tail) ≡ code t
attribute_at xs t ys tail a i h k = column_interleaved 64 xs (code t) ys tail a i h k ∙ all_first_bits 64 (code t) (length_of_code t)

pub and_both : (b c : Bool) → b ≡ true → c ≡ true → (b && c) ≡ true
and_both true c h k = k
and_both false c h k = absurd (cc h)

abbrev codes_of : List ℕ → Trees → List (List Bool)
codes_of keys ts = map code (map (λ k. argument k ts) keys)

abbrev asks_of : List ℕ → Trees → List (Option (List Bool))
asks_of keys ts = map asked_code (map (λ k. argument k ts) keys)

fits_places : (ps ts : Trees) → ((k : ℕ) → fits_at (asked_code (argument k ps)) (code (argument k ts)) ≡ true) →
    (keys : List ℕ) (xs : List (List Bool)) (tail : List Bool) (a i : ℕ)
    → a ≡ length (xs ++ codes_of keys ts) → i ≡ length xs → fits_from a i (asks_of keys ps) (interleave 64 (xs ++ codes_of keys ts) ++ tail) ≡ true
fits_places ps ts meet [] xs tail a i h j = refl
fits_places ps ts meet (k ∷ keys) xs tail a i h j =
    let c = code (argument k ts) in
    let at : attribute a i (interleave 64 (xs ++ c ∷ codes_of keys ts) ++ tail) ≡ c = attribute_at xs (argument k ts) (codes_of keys ts) tail a i h j in
    let moved : (xs ++ c ∷ []) ++ codes_of keys ts ≡ xs ++ c ∷ codes_of keys ts = append_assoc xs (c ∷ []) (codes_of keys ts) in
    let rest : fits_from a (i + 1) (asks_of keys ps) (interleave 64 ((xs ++ c ∷ []) ++ codes_of keys ts) ++ tail) ≡ true =
    fits_places ps ts meet keys (xs ++ c ∷ []) tail a (i + 1) (h ∙ ap length (sym moved)) (omega (arith, j, length-append xs (c ∷ []))) in
    and_both _ _ (ap (fits_at (asked_code (argument k ps))) at ∙ meet k)
    (subst (λ z. fits_from a (i + 1) (asks_of keys ps) (interleave 64 z ++ tail) ≡ true) moved rest)

pub key_fits : (keys : List ℕ) (p t : Tree) (tail : List Bool) → is_head p ≡ true → is_head t ≡ true → HaveACommonInstance p t →
    fits (pattern_of keys p) (key_head keys t ++ tail) ≡ true
key_fits keys p t tail h k e =
    let n : length (pattern_of keys p) ≡ length (map code (keyed_arguments keys t)) =
    length-map (keyed_arguments keys p) asked_code ∙ (length-map keys (λ k. argument k (arguments p))
    ∙ sym (length-map (keyed_arguments keys t) code ∙ length-map keys (λ k. argument k (arguments t)))) in
    fits_places (arguments p) (arguments t) (arguments_meet e.0 e.1.0 p t h k e.1.1) keys [] tail (length (pattern_of keys p)) 0 n refl

-- prefixes of keys that fit
held_at : (p : Option (List Bool)) (part whole : List Bool) → begins part whole ≡ true → fits_at p whole ≡ true → may_hold_at p part ≡ true
held_at None part whole b h = refl
held_at (Some asked) part whole b h = tested (same_bits whole asked) refl
  where
    tested : (c : Bool) → same_bits whole asked ≡ c → may_hold_at (Some asked) part ≡ true
    tested true e = or_first (begins part asked) (begins part variable_code) (subst (λ z. begins part z ≡ true) (same_bits_equal whole asked e) b)
    tested false e = or_second (begins part asked) (begins part variable_code)
        (subst (λ z. begins part z ≡ true) (same_bits_equal whole variable_code (rw e at h)) b)

held_from : (a i : ℕ) (ps : List (Option (List Bool))) (prefix key : List Bool) → begins prefix key ≡ true → fits_from a i ps key ≡ true →
    may_hold_from a i ps prefix ≡ true
held_from a i [] prefix key b h = refl
held_from a i (p ∷ ps) prefix key b h =
    and_both _ _ (held_at p (attribute a i prefix) (attribute a i key) (column_begins 64 a i prefix key b)
    (and_first (fits_at p (attribute a i key)) (fits_from a (i + 1) ps key) h))
    (held_from a (i + 1) ps prefix key b (and_second (fits_at p (attribute a i key)) (fits_from a (i + 1) ps key) h))

pub prefix_holds : (pattern : List (Option (List Bool))) (prefix key : List Bool) → begins prefix key ≡ true → fits pattern key ≡ true →
    may_hold pattern prefix ≡ true
prefix_holds pattern prefix key b h = held_from (length pattern) 0 pattern prefix key b h

-- how long the codes of a key are together, and where each stands
length_of_interleaved : (n : ℕ) (cs : List (List Bool)) → length (interleave n cs) ≡ n * length cs
length_of_interleaved zero cs = omega arith
length_of_interleaved (suc n) cs =
    let p : suc n * length cs ≡ length cs + n * length cs = omega arith in
    omega (
      arith,
      p,
      length-append (map first_bit cs) (interleave n (map (drop 1) cs)),
      length-map cs first_bit,
      length_of_interleaved n (map (drop 1) cs),
      ap (λ z. n * z) (length-map cs (drop 1)),
    )

pub codes_as_long : (keys : List ℕ) (t : Tree) → length (map code (keyed_arguments keys t)) ≡ length keys
codes_as_long keys t = length-map (keyed_arguments keys t) code ∙ length-map keys (λ k. argument k (arguments t))

pub length_of_key_head : (keys : List ℕ) (t : Tree) → length (key_head keys t) ≡ 64 * length keys
length_of_key_head keys t =
    length_of_interleaved 64 (map code (keyed_arguments keys t)) ∙ ap (λ z. 64 * z) (codes_as_long keys t)

-- the codes of keyed arguments, with one of them named
pub codes_split : (before after : List ℕ) (k : ℕ) (t : Tree)
    → map code (keyed_arguments (before ++ k ∷ after) t) ≡ map code (keyed_arguments before t)
    ++ code (argument k (arguments t)) ∷ map code (keyed_arguments after t)
codes_split before after k t =
    let at = λ (j : ℕ). argument j (arguments t) in
    ap (map code) (map-append at before (k ∷ after)) ∙ map-append code (map at before) (map at (k ∷ after))

pub code_found : (before after : List ℕ) (k : ℕ) (t : Tree) (tail : List Bool)
    → attribute (length (before ++ k ∷ after)) (length before) (key_head (before ++ k ∷ after) t ++ tail) ≡ code (argument k (arguments t))
code_found before after k t tail =
    let parts = codes_split before after k t in
    let whole : length (before ++ k ∷ after) ≡ length (map code (keyed_arguments before t)
    ++ code (argument k (arguments t)) ∷ map code (keyed_arguments after t)) =
    sym (codes_as_long (before ++ k ∷ after) t) ∙ ap length parts in
    ap (λ z. attribute (length (before ++ k ∷ after)) (length before) (interleave 64 z ++ tail)) parts
    ∙ attribute_at (map code (keyed_arguments before t)) (argument k (arguments t)) (map code (keyed_arguments after t)) tail (length (before ++ k ∷ after))
    (length before) whole (sym (codes_as_long before t))
