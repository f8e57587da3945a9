-- Canonical text is cut into its tokens.
use Rattle.std.specs.Prelude.{◌≡◌, ℕ, suc, ◌+◌, ◌^◌, ◌<◌, ◌≤◌, Bool, true, false, ◌==◌, nat_lt, cond, List, [], ◌∷◌, ◌++◌}
use Rattle.std.specs.Str.{bytes_eq}
use Rattle.std.proofs.Common.{refl, arith, subst}
use Rattle.std.proofs.lemmas.Bool.{ltb-true}
use Rattle.std.proofs.lemmas.Bool.Decides.{nat_tests}
use Rattle.ml_term.specs.Tree.{Tree, Trees, variable, integer, atom, compound, no_trees, tree, arity, variables, variables_of}
use Rattle.ml_term.specs.Names.{is_name}
use Rattle.ml_term.specs.Valid.{is_valid, are_valid}
use Rattle.ml_term.specs.Text.{comma, is_cell, nil, atom_text}
use Rattle.ml_reader.specs.Lexemes.{Lexeme, variable_lexeme, open_paren, close_paren, close_list}
use Rattle.ml_round_trip.specs.CanonicalTokens.{name_tokens, tokens, argument_tokens, more_tokens, cell_tokens, rest_tokens}
use Rattle.ml_round_trip.specs.ReadBack.{variable_name}
use Rattle.ml_round_trip.proofs.BooleanTests.{cond_cases, both, cell_tells, not_two}
use Rattle.ml_round_trip.proofs.ShownTrees.{valid_compound}
use Rattle.ml_round_trip.proofs.TextBefore.{text_before, arguments_before, more_before, cell_before, rest_before}
use Rattle.ml_round_trip.proofs.TokensInText.{EndsAs}
use Rattle.ml_round_trip.proofs.NamedTokens.{punctuation}
use Rattle.ml_round_trip.proofs.BareNames.{StopsFirst}
use Rattle.ml_round_trip.proofs.TextPieces.{name_ends, integer_ends, known_ends, new_ends}
use Rattle.ml_round_trip.proofs.PlacesInOrder.{counted, AreFit, counted_append, counted_above, fit_first, fit_second}

module _ (bytes : List ℕ) (place : ℕ → ℕ) where
  abbrev number : ℕ → ℕ
  number n = 1 + place n

  -- behind these variables, these bytes are left as these tokens
  abbrev LeftAs : ℕ → List ℕ → List ℕ → List Lexeme → Type 0
  LeftAs v ns bs ys = EndsAs bytes (counted place v ns) bs ys

  left_twice : (v : ℕ) (ms ns : List ℕ) (bs : List ℕ) (ys : List Lexeme) → LeftAs v (ms ++ ns) bs ys → LeftAs (counted place v ms) ns bs ys
  left_twice v ms ns bs ys ends = subst (λ n. EndsAs bytes n bs ys) (counted_append place v ms ns) ends

  stops_more : (ts : Trees) (bs : List ℕ) → StopsFirst bs → StopsFirst (more_before number ts bs)
  stops_more no_trees bs h = h
  stops_more (tree t ts) bs h = refl

  stops_rest : (t : Tree) (bs : List ℕ) → StopsFirst bs → StopsFirst (rest_before number t bs)
  stops_rest (variable n) bs h = refl
  stops_rest (integer z) bs h = refl
  stops_rest (atom f) bs h = cond_cases StopsFirst (bytes_eq f nil) _ _ (λ e. h) (λ e. refl)
  stops_rest (compound f ts) bs h = cond_cases StopsFirst (is_cell f ts) _ _ (λ e. refl) (λ e. refl)

  variable_by : (v p : ℕ) (bs : List ℕ) (ys : List Lexeme) → p ≤ v → 1 + v < 10 ^ 20 → StopsFirst bs → (b : Bool) → nat_lt p v ≡ b
      → EndsAs bytes (cond b v (suc v)) bs ys
      → EndsAs bytes v (variable_name p ++ bs) (variable_lexeme p ∷ ys)
  variable_by v p bs ys l few stops true e ends = known_ends bytes v p bs ys (ltb-true p v e) few stops ends
  variable_by v p bs ys l few stops false e ends =
      let same : v ≡ p = grind (arith, nat_tests) in
      subst (λ n. EndsAs bytes v (variable_name n ++ bs) (variable_lexeme n ∷ ys)) same (new_ends bytes v bs ys few stops ends)

  variable_ends : (v n : ℕ) (bs : List ℕ) (ys : List Lexeme) → AreFit place v (n ∷ []) → StopsFirst bs → LeftAs v (n ∷ []) bs ys
      → EndsAs bytes v (variable_name (place n) ++ bs) (variable_lexeme (place n) ∷ ys)
  variable_ends v n bs ys fit stops ends =
      variable_by v (place n) bs ys fit.order.0 (omega (arith, fit.few, counted_above place v (n ∷ []))) stops (nat_lt (place n) v) refl ends

  cond_ends : (v : ℕ) (b : Bool) (bs cs : List ℕ) (ys zs : List Lexeme) → (b ≡ true → EndsAs bytes v bs ys) → (b ≡ false → EndsAs bytes v cs zs)
      → EndsAs bytes v (cond b bs cs) (cond b ys zs)
  cond_ends v true bs cs ys zs f g = f refl
  cond_ends v false bs cs ys zs f g = g refl

  -- a name and its arguments
  call_ends : (v : ℕ) (f : List ℕ) (ts : Trees) (bs : List ℕ) (ys : List Lexeme) → is_name f ≡ true
      → EndsAs bytes v (arguments_before number ts (41 ∷ bs)) (argument_tokens place ts (close_paren ∷ ys))
      → EndsAs bytes v (atom_text f ++ 40 ∷ arguments_before number ts (41 ∷ bs))
      (name_tokens f (open_paren true ∷ argument_tokens place ts (close_paren ∷ ys)))
  call_ends v f ts bs ys named ends =
      name_ends bytes v f (40 ∷ arguments_before number ts (41 ∷ bs)) (open_paren true ∷ argument_tokens place ts (close_paren ∷ ys)) named refl
      (punctuation bytes v 40 (arguments_before number ts (41 ∷ bs)) (argument_tokens place ts (close_paren ∷ ys)) refl ends)

  fit_arguments : (v : ℕ) (f : List ℕ) (ts : Trees) → AreFit place v (variables (compound f ts)) → AreFit place v (variables_of ts)
  fit_arguments v f ts fit = fit

  mutual
    pub tree_ends : (t : Tree) (v : ℕ) (bs : List ℕ) (ys : List Lexeme) → is_valid t ≡ true → AreFit place v (variables t) → StopsFirst bs
        → LeftAs v (variables t) bs ys
        → EndsAs bytes v (text_before number t bs) (tokens place t ys)
    tree_ends (variable n) v bs ys valid fit stops ends = variable_ends v n bs ys fit stops ends
    tree_ends (integer z) v bs ys valid fit stops ends = integer_ends bytes v z bs ys valid stops ends
    tree_ends (atom f) v bs ys valid fit stops ends = name_ends bytes v f bs ys valid stops ends
    tree_ends (compound f ts) v bs ys valid fit stops ends =
        let w = valid_compound f ts valid in
        cond_ends v (is_cell f ts) _ _ _ _
        (λ e. punctuation bytes v 91 (cell_before number ts (93 ∷ bs)) (cell_tokens place ts (close_list ∷ ys)) refl
        (cell_ends ts v (93 ∷ bs) (close_list ∷ ys) (cell_tells f ts e).1 w.2 (fit_arguments v f ts fit) refl
        (punctuation bytes (counted place v (variables_of ts)) 93 bs ys refl ends)))
        (λ e. call_ends v f ts bs ys w.0
        (arguments_end ts v (41 ∷ bs) (close_paren ∷ ys) w.2 (fit_arguments v f ts fit) refl
        (punctuation bytes (counted place v (variables_of ts)) 41 bs ys refl ends)))

    arguments_end : (ts : Trees) (v : ℕ) (bs : List ℕ) (ys : List Lexeme) → are_valid ts ≡ true → AreFit place v (variables_of ts) → StopsFirst bs
        → LeftAs v (variables_of ts) bs ys
        → EndsAs bytes v (arguments_before number ts bs) (argument_tokens place ts ys)
    arguments_end no_trees v bs ys valid fit stops ends = ends
    arguments_end (tree t ts) v bs ys valid fit stops ends =
        let w = both (is_valid t) (are_valid ts) valid in
        tree_ends t v (more_before number ts bs) (more_tokens place ts ys) w.0 (fit_first place v (variables t) (variables_of ts) fit) (stops_more ts bs stops)
        (more_end ts (counted place v (variables t)) bs ys w.1 (fit_second place v (variables t) (variables_of ts) fit) stops
        (left_twice v (variables t) (variables_of ts) bs ys ends))

    more_end : (ts : Trees) (v : ℕ) (bs : List ℕ) (ys : List Lexeme) → are_valid ts ≡ true → AreFit place v (variables_of ts) → StopsFirst bs
        → LeftAs v (variables_of ts) bs ys
        → EndsAs bytes v (more_before number ts bs) (more_tokens place ts ys)
    more_end no_trees v bs ys valid fit stops ends = ends
    more_end (tree t ts) v bs ys valid fit stops ends =
        let w = both (is_valid t) (are_valid ts) valid in
        punctuation bytes v comma (text_before number t (more_before number ts bs)) (tokens place t (more_tokens place ts ys)) refl
        (tree_ends t v (more_before number ts bs) (more_tokens place ts ys) w.0 (fit_first place v (variables t) (variables_of ts) fit) (stops_more ts bs stops)
        (more_end ts (counted place v (variables t)) bs ys w.1 (fit_second place v (variables t) (variables_of ts) fit) stops
        (left_twice v (variables t) (variables_of ts) bs ys ends)))

    cell_ends : (ts : Trees) (v : ℕ) (bs : List ℕ) (ys : List Lexeme) → (arity ts == 2) ≡ true → are_valid ts ≡ true → AreFit place v (variables_of ts)
        → StopsFirst bs
        → LeftAs v (variables_of ts) bs ys → EndsAs bytes v (cell_before number ts bs) (cell_tokens place ts ys)
    cell_ends no_trees v bs ys e valid fit stops ends = absurd (cc)
    cell_ends (tree h no_trees) v bs ys e valid fit stops ends = absurd (cc)
    cell_ends (tree h (tree t no_trees)) v bs ys e valid fit stops ends =
        let w = both (is_valid h) (are_valid (tree t no_trees)) valid in
        let u = counted place v (variables h) in
        tree_ends h v (rest_before number t bs) (rest_tokens place t ys) w.0 (fit_first place v (variables h) (variables t ++ []) fit) (stops_rest t bs stops)
        (rest_ends t u bs ys (both (is_valid t) true w.1).0
        (fit_first place u (variables t) [] (fit_second place v (variables h) (variables t ++ []) fit)) stops
        (left_twice u (variables t) [] bs ys (left_twice v (variables h) (variables t ++ []) bs ys ends)))
    cell_ends (tree h (tree t (tree u ts))) v bs ys e valid fit stops ends = absurd (not_two (arity ts) e)

    rest_ends : (t : Tree) (v : ℕ) (bs : List ℕ) (ys : List Lexeme) → is_valid t ≡ true → AreFit place v (variables t) → StopsFirst bs
        → LeftAs v (variables t) bs ys
        → EndsAs bytes v (rest_before number t bs) (rest_tokens place t ys)
    rest_ends (variable n) v bs ys valid fit stops ends =
        punctuation bytes v 124 (variable_name (place n) ++ bs) _ refl (variable_ends v n bs ys fit stops ends)
    rest_ends (integer z) v bs ys valid fit stops ends = punctuation bytes v 124 _ _ refl (integer_ends bytes v z bs ys valid stops ends)
    rest_ends (atom f) v bs ys valid fit stops ends =
        cond_ends v (bytes_eq f nil) _ _ _ _ (λ e. ends)
        (λ e. punctuation bytes v 124 (atom_text f ++ bs) (name_tokens f ys) refl (name_ends bytes v f bs ys valid stops ends))
    rest_ends (compound f ts) v bs ys valid fit stops ends =
        let w = valid_compound f ts valid in
        cond_ends v (is_cell f ts) _ _ _ _
        (λ e. punctuation bytes v comma (cell_before number ts bs) (cell_tokens place ts ys) refl
        (cell_ends ts v bs ys (cell_tells f ts e).1 w.2 (fit_arguments v f ts fit) stops ends))
        (λ e. punctuation bytes v 124 (atom_text f ++ 40 ∷ arguments_before number ts (41 ∷ bs))
        (name_tokens f (open_paren true ∷ argument_tokens place ts (close_paren ∷ ys))) refl
        (call_ends v f ts bs ys w.0
        (arguments_end ts v (41 ∷ bs) (close_paren ∷ ys) w.2 (fit_arguments v f ts fit) refl
        (punctuation bytes (counted place v (variables_of ts)) 41 bs ys refl ends))))
