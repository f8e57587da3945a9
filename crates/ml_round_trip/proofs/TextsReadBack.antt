-- The canonical text of a term, followed by a space and a full stop, is a text of one clause: the term with its variables numbered anew.
use Rattle.std.specs.Prelude.{◌≡◌, ℕ, ◌+◌, ◌^◌, ◌<◌, ◌≤◌, true, nat_le, pos, negsuc, List, [], ◌∷◌, ◌++◌, length, codes}
use Rattle.std.specs.List.{flat_map}
use Rattle.std.proofs.Common.{refl, sym, ap, arith, subst, length-append}
use Rattle.std.proofs.lemmas.Bool.{ltb-true, le-leb}
use Rattle.ml_term.specs.Tree.{Tree, Trees, variable, integer, atom, compound, no_trees, tree, nodes, nodes_of, variables, variables_of, firsts, place_in}
use Rattle.ml_term.specs.Tree.{width, substitute, rename}
use Rattle.ml_term.specs.Valid.{is_valid}
use Rattle.ml_term.specs.CanonicalBytes.{integer_offset}
use Rattle.ml_term.specs.Text.{join_by_commas, texts, cell_text, is_cell, is_bare, quoted_byte, atom_text, text, number_in, text_of}
use Rattle.ml_term.proofs.DistinctCounts.{In}
use Rattle.ml_term.proofs.Substitutions.{alike}
use Rattle.ml_term.proofs.RenamedTerms.{in_firsts, place_below}
use Rattle.ml_term.proofs.VariableNumbering.{renamed_nodes}
use Rattle.ml_reader.specs.Lexemes.{ReadClause, clause_from, Lexeme, end}
use Rattle.ml_reader.specs.Tokens.{text_start, Ends}
use Rattle.ml_reader.specs.Grammar.{IsText, no_clause, a_clause}
use Rattle.ml_reader.specs.Reading.{Reads}
use Rattle.ml_reader.proofs.Parsing.OneTextReading.{only_tokens, only_reading}
use Rattle.ml_term.specs.Limits.{max_term_nodes}
use Rattle.ml_reader.specs.Limits.{max_text_levels}
use Rattle.ml_reader.specs.Levels.{most_levels_of_text}
use Rattle.ml_reader.specs.Texts.{IsRead}
use Rattle.ml_round_trip.specs.TextLevels.{text_levels}
use Rattle.ml_round_trip.specs.CanonicalTokens.{tokens_of}
use Rattle.ml_round_trip.specs.ReadBack.{clause_end_of, read_back}
use Rattle.ml_round_trip.proofs.BooleanTests.{cond_cases, both_hold}
use Rattle.ml_round_trip.proofs.DecimalDigits.{decimal_is}
use Rattle.ml_round_trip.proofs.ShownTrees.{Shown, shown}
use Rattle.ml_round_trip.proofs.DerivedTerms.{derived}
use Rattle.ml_round_trip.proofs.OneDepth.{one_depth_of_clause}
use Rattle.ml_round_trip.proofs.TextBefore.{text_is}
use Rattle.ml_round_trip.proofs.TokensInText.{EndsAs}
use Rattle.ml_round_trip.proofs.NamedTokens.{last_token_named}
use Rattle.ml_round_trip.proofs.PlacesInOrder.{counted, AreFit, counted_few}
use Rattle.ml_round_trip.proofs.FirstPlaces.{counted_all}
use Rattle.ml_round_trip.proofs.CutTexts.{tree_ends}
use Rattle.ml_round_trip.proofs.FewTokens.{AreFew, last_few, tree_few}
use Rattle.ml_round_trip.proofs.RenamedTerms.{stays_valid}

mutual
  few_variables : (t : Tree) → length (variables t) ≤ nodes t
  few_variables (variable n) = omega arith
  few_variables (integer z) = omega arith
  few_variables (atom f) = omega arith
  few_variables (compound f ts) = omega (arith, all_few_variables ts)

  all_few_variables : (ts : Trees) → length (variables_of ts) ≤ nodes_of ts
  all_few_variables no_trees = omega arith
  all_few_variables (tree t ts) = omega (arith, few_variables t, all_few_variables ts, length-append (variables t) (variables_of ts))

-- a space and a full stop
abbrev pub stop : List ℕ
stop = codes " ."

some_name : (f : List ℕ) → 1 ≤ length (atom_text f)
some_name f = cond_cases (λ xs. 1 ≤ length xs) (is_bare f) f (39 ∷ flat_map quoted_byte f ++ 39 ∷ []) (bare f) (λ e. omega arith)
  where
    bare : (f : List ℕ) → is_bare f ≡ true → 1 ≤ length f
    bare [] e = absurd (cc)
    bare (b ∷ f) e = omega arith

some_behind : (xs ys : List ℕ) (y : ℕ) → 1 ≤ length (xs ++ y ∷ ys)
some_behind xs ys y = omega (arith, length-append xs (y ∷ ys))

-- no text is empty
some_text : (number : ℕ → ℕ) (t : Tree) → is_valid t ≡ true → 1 ≤ length (text number t)
some_text number (variable n) v = omega arith
some_text number (integer (pos n)) v = let small : n < integer_offset = ltb-true n integer_offset v in (decimal_is n (omega arith)).some
some_text number (integer (negsuc n)) v = omega arith
some_text number (atom f) v = some_name f
some_text number (compound f ts) v =
    cond_cases (λ xs. 1 ≤ length xs) (is_cell f ts) (91 ∷ cell_text number ts ++ 93 ∷ []) (atom_text f ++ 40 ∷ join_by_commas (texts number ts) ++ 41 ∷ [])
    (λ e. omega arith) (λ e. some_behind (atom_text f ++ 40 ∷ join_by_commas (texts number ts)) [] 41)

module _ (t : Tree) (valid : is_valid t ≡ true) (small : nodes t ≤ 4096) where
  abbrev place : ℕ → ℕ
  place n = place_in (firsts (variables t)) n

  fit : AreFit place 0 (variables t)
  fit = record { order = (counted_all (variables t)).order; few = omega (arith, counted_few place 0 (variables t), few_variables t) }

  long : 2 < length (text_of t [] ++ stop)
  long = omega (arith, length-append (text_of t []) stop, some_text (number_in (firsts (variables t))) t valid)

  ends_last : EndsAs (text_of t [] ++ stop) (counted place 0 (variables t)) stop (end (clause_end_of t) ∷ [])
  ends_last =
      subst (λ n. EndsAs (text_of t [] ++ stop) n stop (end (clause_end_of t) ∷ [])) (sym (counted_all (variables t)).all)
      (last_token_named (text_of t [] ++ stop) (width t) long)

  pub cut_whole : Ends (text_of t [] ++ stop) text_start (tokens_of t (end (clause_end_of t) ∷ []))
  cut_whole =
      tree_ends (text_of t [] ++ stop) place t 0 stop (end (clause_end_of t) ∷ []) valid fit refl ends_last text_start
      (record { names = refl; variables = refl; first = refl; begun = λ e. refl }) (text_is (number_in (firsts (variables t))) t stop)

  from_zero : (n : ℕ) → place n ≡ 0 + place n
  from_zero n = omega arith

  same_term : substitute (λ n. variable (place n)) t ≡ rename 0 t
  same_term = alike _ _ t (λ n i. ap variable (from_zero n))

  -- the derivation, with its levels
  pub record OneClause (w : ReadClause) : Type 0 where
    pub derivation : IsText true (tokens_of t (end (clause_end_of t) ∷ [])) (w ∷ [])
    pub depth : most_levels_of_text derivation ≡ text_levels t

  pub one_clause : OneClause (read_back t)
  one_clause =
      let d = derived {c = true} (shown place t (end (clause_end_of t) ∷ []) valid) refl in
      subst (λ u. OneClause (clause_from (clause_end_of t) u)) same_term (record {
        derivation = a_clause d.derivation refl no_clause;
        depth =
            omega (arith, d.depth);
      })

  pub read_again : Reads (text_of t [] ++ stop) (read_back t ∷ [])
  read_again = record { tokens = tokens_of t (end (clause_end_of t) ∷ []); whole = cut_whole; text = one_clause.derivation }

  below : (n : ℕ) → In n (variables t) → 0 + place n < 2 ^ 32
  below n i =
      let within : place_in (firsts (variables t)) n < length (firsts (variables t)) = place_below (firsts (variables t)) n (in_firsts n (variables t) i) in
      omega (arith, within, (counted_all (variables t)).all, counted_few place 0 (variables t), few_variables t)

  pub read_within_limits : text_levels t ≤ max_text_levels → IsRead (text_of t [] ++ stop) (read_back t ∷ [])
  read_within_limits few =
      let few_tokens : AreFew 0 (tokens_of t (end (clause_end_of t) ∷ [])) =
      tree_few place t 0 16383 (end (clause_end_of t) ∷ []) valid (omega arith) (omega arith) (last_few 16383 (clause_end_of t) (omega arith)) in
      record {
        tokens = tokens_of t (end (clause_end_of t) ∷ []);
        whole = cut_whole;
        text = one_clause.derivation;
        levels = omega (arith, one_clause.depth);
        short = few_tokens.short 0 (omega arith);
        valid = both_hold (is_valid (rename 0 t)) true (stays_valid (λ n. 0 + place n) t valid below) refl;
        small =
            both_hold (nat_le (nodes (rename 0 t)) max_term_nodes) true (le-leb (nodes (rename 0 t)) max_term_nodes (omega (arith, renamed_nodes 0 t))) refl;
      }

  -- the text's tokens, however they are derived
  pub one_depth_of_text : (xs : List Lexeme) (cs : List ReadClause) → Ends (text_of t [] ++ stop) text_start xs → (d : IsText true xs cs)
      → most_levels_of_text d ≡ text_levels t
  one_depth_of_text xs cs ends d =
      let e : tokens_of t (end (clause_end_of t) ∷ []) ≡ xs = only_tokens (text_of t [] ++ stop) cut_whole ends in
      one_depth_of_clause (subst (λ l. Shown l (end (clause_end_of t) ∷ []) (substitute (λ n. variable (place n)) t) (text_levels t)) e
      (shown place t (end (clause_end_of t) ∷ []) valid)) d

  -- it is no other text, and within the limits of no text where it opens too many levels
  pub read_only_so : (cs : List ReadClause) → IsRead (text_of t [] ++ stop) cs → (cs ≡ read_back t ∷ []) × (text_levels t ≤ max_text_levels)
  read_only_so cs r =
      let same : Reads (text_of t [] ++ stop) cs = record { tokens = r.tokens; whole = r.whole; text = r.text } in
      (only_reading (text_of t [] ++ stop) cs (read_back t ∷ []) same read_again, omega (arith, r.levels, one_depth_of_text r.tokens cs r.whole r.text))

heads_same : (v w : ReadClause) → v ∷ [] ≡ w ∷ [] → v ≡ w
heads_same v w e = cc

-- the texts of terms tell them apart
pub texts_apart : (t u : Tree) → is_valid t ≡ true → is_valid u ≡ true → nodes t ≤ 4096 → nodes u ≤ 4096 → text_of t [] ≡ text_of u []
    → rename 0 t ≡ rename 0 u
texts_apart t u v w m n e =
    let other : Reads (text_of t [] ++ stop) (read_back u ∷ []) = subst (λ bs. Reads (bs ++ stop) (read_back u ∷ [])) (sym e) (read_again u w n) in
    ap (λ (c : ReadClause). c.term)
    (heads_same (read_back t) (read_back u) (only_reading (text_of t [] ++ stop) (read_back t ∷ []) (read_back u ∷ []) (read_again t v m) other))
