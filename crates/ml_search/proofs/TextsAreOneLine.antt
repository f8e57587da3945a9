-- No text of a term has a line feed, nor has a number.
use Rattle.std.specs.Prelude.{◌≡◌, ℕ, zero, suc, ◌+◌, ◌-◌, ◌/◌, ◌%◌, ◌==◌, nat_lt, nat_le, ℤ, pos, negsuc, Bool, true, false, not, ◌&&◌, ◌||◌, cond, List, []}
use Rattle.std.specs.Prelude.{◌∷◌, ◌++◌, slice_index, codes}
use Rattle.std.specs.List.{list_all, flat_map}
use Rattle.std.specs.Str.{bytes_eq}
use Rattle.std.proofs.Common.{refl, ap, ◌∙◌, arith}
use Rattle.std.proofs.lemmas.Bool.{eqb-true}
use Rattle.ml_search.proofs.LinesOfBytes.{first_holds, second_holds}
use Rattle.std.proofs.lemmas.Slice.Eq.{bytes_eq-Decides}
use Rattle.ml_term.specs.Tree.{Tree, Trees, variable, integer, atom, compound, no_trees, tree, variables, firsts}
use Rattle.ml_term.specs.Decimal.{digits_of, decimal_text, integer_text}
use Rattle.ml_term.specs.Text.{is_lowercase, is_alphanumeric, is_symbol, is_word, is_symbol_name, is_solo, is_bare, escape_letters, quoted_byte, atom_text}
use Rattle.ml_term.specs.Text.{is_cell, nil, join_by_commas, compound_text, text, texts, cell_text, rest_text, number_in, text_of}
use Rattle.ml_search.specs.LawWords.{is_one_line}

pub together : (xs ys : List ℕ) → is_one_line xs ≡ true → is_one_line ys ≡ true → is_one_line (xs ++ ys) ≡ true
together [] ys h k = k
together (x ∷ xs) ys h k = grind (arith, h, k, together xs ys)

-- what passes a test that a line feed doesn't pass is none
no_feed : (p : ℕ → Bool) → p 10 ≡ false → (b : ℕ) → p b ≡ true → not (b == 10) ≡ true
no_feed p h b k = by (b == 10) refl
  where
    by : (c : Bool) → (b == 10) ≡ c → not c ≡ true
    by false e = refl
    by true e = grind (arith, h, k, ap p (eqb-true b 10 e))

all_pass : (p : ℕ → Bool) → p 10 ≡ false → (bs : List ℕ) → list_all p bs ≡ true → is_one_line bs ≡ true
all_pass p h [] k = refl
all_pass p h (b ∷ bs) k = rw (no_feed p h b (first_holds (p b) (list_all p bs) k)) (all_pass p h bs (second_holds (p b) (list_all p bs) k))

-- one of two texts
either : (c : Bool) (xs ys : List ℕ) → is_one_line xs ≡ true → is_one_line ys ≡ true → is_one_line (cond c xs ys) ≡ true
either true xs ys h k = h
either false xs ys h k = k

digit : (n : ℕ) → not ((48 + n) == 10) ≡ true
digit n = by ((48 + n) == 10) refl
  where
    by : (c : Bool) → ((48 + n) == 10) ≡ c → not c ≡ true
    by false e = refl
    by true e = absurd (omega (arith, eqb-true (48 + n) 10 e))

one_byte : (b : ℕ) → not (b == 10) ≡ true → is_one_line (b ∷ []) ≡ true
one_byte b h = rw h refl

digits_line : (k n : ℕ) → is_one_line (digits_of k n) ≡ true
digits_line zero n = refl
digits_line (suc k) n =
    either (nat_lt n 10) ((48 + n) ∷ []) (digits_of k (n / 10) ++ (48 + n % 10) ∷ []) (one_byte (48 + n) (digit n))
    (together (digits_of k (n / 10)) ((48 + n % 10) ∷ []) (digits_line k (n / 10)) (one_byte (48 + n % 10) (digit (n % 10))))

pub decimal_line : (n : ℕ) → is_one_line (decimal_text n) ≡ true
decimal_line n = digits_line 20 n

integer_line : (z : ℤ) → is_one_line (integer_text z) ≡ true
integer_line (pos n) = decimal_line n
integer_line (negsuc n) = decimal_line (n + 1)

word_line : (f : List ℕ) → is_word f ≡ true → is_one_line f ≡ true
word_line [] h = refl
word_line (b ∷ bs) h =
    rw (no_feed is_lowercase refl b (first_holds (is_lowercase b) (list_all is_alphanumeric bs) h))
    (all_pass is_alphanumeric refl bs (second_holds (is_lowercase b) (list_all is_alphanumeric bs) h))

symbol_line : (f : List ℕ) → is_symbol_name f ≡ true → is_one_line f ≡ true
symbol_line [] h = refl
symbol_line (b ∷ bs) h = all_pass is_symbol refl (b ∷ bs) (first_holds (list_all is_symbol (b ∷ bs)) _ (first_holds _ _ h))

-- one of some names
is_name_line : (f g : List ℕ) → bytes_eq f g ≡ true → is_one_line g ≡ true → is_one_line f ≡ true
is_name_line f g h k = ap is_one_line ((bytes_eq-Decides f g).0 h) ∙ k

solo_line : (f : List ℕ) → is_solo f ≡ true → is_one_line f ≡ true
solo_line f h = by (bytes_eq f (codes "[]")) refl (bytes_eq f (codes "{}")) refl (bytes_eq f (codes "!")) refl (bytes_eq f (codes ";")) refl h
  where
    by : (a : Bool) → bytes_eq f (codes "[]") ≡ a → (b : Bool) → bytes_eq f (codes "{}") ≡ b → (c : Bool) → bytes_eq f (codes "!") ≡ c → (d : Bool) →
        bytes_eq f (codes ";") ≡ d → (a || b || c || d) ≡ true → is_one_line f ≡ true
    by true e b x c y d z h = is_name_line f (codes "[]") e refl
    by false e true x c y d z h = is_name_line f (codes "{}") x refl
    by false e false x true y d z h = is_name_line f (codes "!") y refl
    by false e false x false y true z h = is_name_line f (codes ";") z refl
    by false e false x false y false z h = grind (arith, h)

bare_line : (f : List ℕ) → is_bare f ≡ true → is_one_line f ≡ true
bare_line f h = by (is_word f) refl (is_symbol_name f) refl h
  where
    by : (a : Bool) → is_word f ≡ a → (b : Bool) → is_symbol_name f ≡ b → (a || b || is_solo f) ≡ true → is_one_line f ≡ true
    by true e b x h = word_line f e
    by false e true x h = symbol_line f x
    by false e false x h = solo_line f h

letter : (k : ℕ) → not (slice_index escape_letters k == 10) ≡ true
letter zero = refl
letter (suc zero) = refl
letter (suc (suc zero)) = refl
letter (suc (suc (suc zero))) = refl
letter (suc (suc (suc (suc zero)))) = refl
letter (suc (suc (suc (suc (suc zero))))) = refl
letter (suc (suc (suc (suc (suc (suc zero)))))) = refl
letter (suc (suc (suc (suc (suc (suc (suc k))))))) = refl

quoted_line : (b : ℕ) → is_one_line (quoted_byte b) ≡ true
quoted_line b = by (b == 10) refl
  where
    by : (c : Bool) → (b == 10) ≡ c → is_one_line (quoted_byte b) ≡ true
    by true e = ap (λ b. is_one_line (quoted_byte b)) (eqb-true b 10 e)
    by false e =
        either (nat_le 7 b && nat_le b 13) (92 ∷ slice_index escape_letters (b - 7) ∷ []) (cond ((b == 92) || (b == 39)) (92 ∷ b ∷ []) (b ∷ []))
        (one_byte (slice_index escape_letters (b - 7)) (letter (b - 7)))
        (either ((b == 92) || (b == 39)) (92 ∷ b ∷ []) (b ∷ []) (one_byte b (ap not e)) (one_byte b (ap not e)))

quoted_all : (f : List ℕ) → is_one_line (flat_map quoted_byte f) ≡ true
quoted_all [] = refl
quoted_all (b ∷ bs) = together (quoted_byte b) (flat_map quoted_byte bs) (quoted_line b) (quoted_all bs)

atom_line : (f : List ℕ) → is_one_line (atom_text f) ≡ true
atom_line f = by (is_bare f) refl
  where
    by : (c : Bool) → is_bare f ≡ c → is_one_line (cond c f (39 ∷ flat_map quoted_byte f ++ 39 ∷ [])) ≡ true
    by true e = bare_line f e
    by false e = together (flat_map quoted_byte f) (39 ∷ []) (quoted_all f) refl

joined_line : (ts : List (List ℕ)) → list_all is_one_line ts ≡ true → is_one_line (join_by_commas ts) ≡ true
joined_line [] h = refl
joined_line (t ∷ []) h = first_holds (is_one_line t) true h
joined_line (t ∷ u ∷ ts) h =
    together t (44 ∷ join_by_commas (u ∷ ts)) (first_holds (is_one_line t) (list_all is_one_line (u ∷ ts)) h)
    (joined_line (u ∷ ts) (second_holds (is_one_line t) (list_all is_one_line (u ∷ ts)) h))

compound_line : (f : List ℕ) (ts : List (List ℕ)) → list_all is_one_line ts ≡ true → is_one_line (compound_text f ts) ≡ true
compound_line f ts h =
    together (atom_text f ++ 40 ∷ join_by_commas ts) (41 ∷ []) (together (atom_text f) (40 ∷ join_by_commas ts) (atom_line f) (joined_line ts h)) refl

both_hold : (a b : Bool) → a ≡ true → b ≡ true → (a && b) ≡ true
both_hold a b h k = rw h k

module _ (number : ℕ → ℕ) where
  mutual
    text_line : (t : Tree) → is_one_line (text number t) ≡ true
    text_line (variable n) = decimal_line (number n)
    text_line (integer z) = integer_line z
    text_line (atom f) = atom_line f
    text_line (compound f ts) =
        either (is_cell f ts) (91 ∷ cell_text number ts ++ 93 ∷ []) (compound_text f (texts number ts))
        (together (cell_text number ts) (93 ∷ []) (cell_line ts) refl) (compound_line f (texts number ts) (texts_line ts))

    texts_line : (ts : Trees) → list_all is_one_line (texts number ts) ≡ true
    texts_line no_trees = refl
    texts_line (tree t ts) = both_hold (is_one_line (text number t)) (list_all is_one_line (texts number ts)) (text_line t) (texts_line ts)

    cell_line : (ts : Trees) → is_one_line (cell_text number ts) ≡ true
    cell_line no_trees = refl
    cell_line (tree h no_trees) = refl
    cell_line (tree h (tree t no_trees)) = together (text number h) (rest_text number t) (text_line h) (rest_line t)
    cell_line (tree h (tree t (tree u ts))) = refl

    rest_line : (t : Tree) → is_one_line (rest_text number t) ≡ true
    rest_line (variable n) = decimal_line (number n)
    rest_line (integer z) = integer_line z
    rest_line (atom f) = either (bytes_eq f nil) [] (124 ∷ atom_text f) refl (atom_line f)
    rest_line (compound f ts) =
        either (is_cell f ts) (44 ∷ cell_text number ts) (124 ∷ compound_text f (texts number ts)) (cell_line ts)
        (compound_line f (texts number ts) (texts_line ts))

-- the text of a term is in one line
pub term_line : (t : Tree) (met : List ℕ) → is_one_line (text_of t met) ≡ true
term_line t met = text_line (number_in (firsts (met ++ variables t))) t
