-- The parser's answer is exact.
use Rattle.std.specs.Prelude.{◌≢◌, ◌≡◌, ℕ, suc, ◌+◌, true, false, List, [], ◌∷◌, ◌++◌, length, take, Some, Ok, Err}
use Rattle.std.proofs.Common.{refl, sym, ap, ◌∙◌, subst, arith, append_assoc, append-nil, length-append, add-one}
use Rattle.ml_reader.specs.Lexemes.{ReadClause, Lexeme, clauses_onto}
use Rattle.ml_reader.specs.Grammar.{IsText, Viable}
use Rattle.ml_reader.specs.inside.parser.Parser.{root, ◌▹◌, State, expect_term, after_open, after_name, after_term, Fault, clash, unexpected, Next, step}
use Rattle.ml_reader.specs.inside.parser.Parser.{run_tokens, read_tokens}
use Rattle.ml_reader.specs.inside.parser.Exact.{refused_at, ends_inside, IsKind, Exact, answer_at_end, answer}
use Rattle.ml_reader.proofs.Parsing.AcceptedTerms.{sound}
use Rattle.ml_reader.proofs.Parsing.StateCompletions.{viable, run_append}
use Rattle.ml_reader.proofs.Parsing.TermsRunThrough.{reads, text_back}
use Rattle.ml_reader.proofs.Parsing.RunsWithoutPriorities.{wants, place_of, moved, walk, walk_append, Agrees, step_agrees, walks, walk_viable, walk_stops}

take_front : (xs ys : List Lexeme) → take (length xs) (xs ++ ys) ≡ xs
take_front [] ys = refl
take_front (x ∷ xs) ys = ap (λ l. x ∷ l) (take_front xs ys)

take_more : (xs : List Lexeme) (x : Lexeme) (ys : List Lexeme) → take (suc (length xs)) (xs ++ (x ∷ ys)) ≡ xs ++ (x ∷ [])
take_more [] x ys = refl
take_more (y ∷ xs) x ys = ap (λ l. y ∷ l) (take_more xs x ys)

abbrev no_stop : State → Next
no_stop s = Ok s

same_root : {cs ds : List ReadClause} → no_stop (expect_term (root cs)) ≡ no_stop (expect_term (root ds)) → cs ≡ ds
same_root e = cc

reversed_back : (ds cs es : List ReadClause) → clauses_onto (text_back ds cs) es ≡ clauses_onto cs (ds ++ es)
reversed_back [] cs es = refl
reversed_back (d ∷ ds) cs es = reversed_back ds (d ∷ cs) es

fault_stays_on : (k : Fault) (xs : List Lexeme) → run_tokens true (Err k) xs ≡ Err k
fault_stays_on k [] = refl
fault_stays_on k (x ∷ xs) = refl

not_both : {s : State} {k : Fault} → no_stop s ≡ Err k → ⊥
not_both e = cc

module _ (front : List Lexeme) (s : State) (e : read_tokens true front ≡ Ok s) where
  at_end : Exact front (answer_at_end s)
  at_end = go s e
    where
      no_text : (s : State) → read_tokens true front ≡ Ok s → ((cs : List ReadClause) → no_stop s ≡ no_stop (expect_term (root cs)) → ⊥)
          → Exact front ends_inside
      no_text s e d = (viable true front s e, λ ds c. d (text_back ds []) (sym e ∙ reads front ds c))

      go : (s : State) → read_tokens true front ≡ Ok s → Exact front (answer_at_end s)
      go (expect_term (root cs)) e = (
        sound true front cs e,
        λ ds c. sym (append-nil ds)
            ∙ (sym (reversed_back ds [] []) ∙ ap (λ l. clauses_onto l []) (same_root (sym (reads front ds c) ∙ e))),
      )
      go (expect_term (f ▹ fs)) e = no_text (expect_term (f ▹ fs)) e (λ cs i. grind (arith, i))
      go (after_open k fs) e = no_text (after_open k fs) e (λ t i. grind (arith, i))
      go (after_name m f fs) e = no_text (after_name m f fs) e (λ t i. grind (arith, i))
      go (after_term p t fs) e = no_text (after_term p t fs) e (λ u i. grind (arith, i))

  module _ (x : Lexeme) where
    pub one_token_more : read_tokens true (front ++ (x ∷ [])) ≡ step true s x
    one_token_more = run_append true (Ok (expect_term (root []))) front (x ∷ []) ∙ ap (λ n. run_tokens true n (x ∷ [])) e

    walk_more : walk (Some (wants [])) (front ++ (x ∷ [])) ≡ moved (place_of s) x
    walk_more =
        walk_append (Some (wants [])) front (x ∷ []) ∙ ap (λ m. walk m (x ∷ [])) (walks true (Ok (expect_term (root []))) (Some (wants [])) front s refl e)

    pub kind : (k : Fault) → Agrees (Err k) (moved (place_of s) x) → IsKind k (front ++ (x ∷ []))
    kind clash a = walk_viable (front ++ (x ∷ [])) a.0 (walk_more ∙ a.1)
    kind unexpected a = walk_stops false (front ++ (x ∷ [])) (walk_more ∙ a)

    module _ (k : Fault) (f : step true s x ≡ Err k) where
      pub stuck : Viable true (front ++ (x ∷ [])) → ⊥
      stuck v = not_both (sym (reads _ v.1 v.2) ∙ (run_append true (Ok (expect_term (root []))) (front ++ (x ∷ [])) v.0
          ∙ (ap (λ n. run_tokens true n v.0) (one_token_more ∙ f) ∙ fault_stays_on k v.0)))

      pub first_fault : (xs : List Lexeme) → Exact (front ++ (x ∷ xs)) (refused_at (length front) k)
      first_fault xs =
          let e1 : take (length front) (front ++ (x ∷ xs)) ≡ front = take_front front (x ∷ xs) in
          let e2 : take (length front + 1) (front ++ (x ∷ xs)) ≡ front ++ (x ∷ []) = rw add-one (take_more front x xs) in (
            omega (arith, length-append front (x ∷ xs)),
            subst (λ l. Viable true l) (sym e1) (viable true front s e),
            (λ v. stuck (subst (λ l. Viable true l) e2 v)),
            subst (λ l. IsKind k l) (sym e2) (kind k (subst (λ n. Agrees n (moved (place_of s) x)) f (step_agrees true s x))),
          )

-- where the parser doesn't stand between clauses the tokens are no text
pub no_text_yet : (xs : List Lexeme) (s : State) → read_tokens true xs ≡ Ok s → ((cs : List ReadClause) → s ≢ expect_term (root cs)) → (cs : List ReadClause)
    → IsText true xs cs → ⊥
no_text_yet xs s e d cs c = d (text_back cs []) (same_state (sym e ∙ reads xs cs c))
  where
    same_state : {r s : State} → no_stop r ≡ no_stop s → r ≡ s
    same_state e = cc

-- at a token that the parser refuses, the kind of its refusal is right
pub right_kind : (xs : List Lexeme) (s : State) (e : read_tokens true xs ≡ Ok s) (x : Lexeme) (k : Fault) → step true s x ≡ Err k → IsKind k (xs ++ (x ∷ []))
right_kind xs s e x k f = kind xs s e x k (subst (λ n. Agrees n (moved (place_of s) x)) f (step_agrees true s x))

exact_from : (xs front : List Lexeme) (s : State) (n : ℕ) → read_tokens true front ≡ Ok s → n ≡ length front → Exact (front ++ xs) (answer n s xs)
exact_from [] front s n e l = subst (λ l. Exact l (answer_at_end s)) (sym (append-nil front)) (at_end front s e)
exact_from (x ∷ xs) front s n e l =
    go (step true s x) refl (λ s' e'. exact_from xs (front ++ (x ∷ [])) s' (n + 1) e' (omega (arith, l, length-append front (x ∷ []))))
  where
    go : (m : Next) → step true s x ≡ m
        → ((s' : State) → read_tokens true (front ++ (x ∷ [])) ≡ Ok s' → Exact ((front ++ (x ∷ [])) ++ xs) (answer (n + 1) s' xs))
        → Exact (front ++ (x ∷ xs)) (elim m [ Ok s' ↦ answer (n + 1) s' xs | Err k ↦ refused_at n k ])
    go (Ok s') f h = subst (λ l. Exact l (answer (n + 1) s' xs)) (append_assoc front (x ∷ []) xs) (h s' (one_token_more front s e x ∙ f))
    go (Err k) f h = subst (λ n. Exact (front ++ (x ∷ xs)) (refused_at n k)) (sym l) (first_fault front s e x k f xs)

pub exact : (xs : List Lexeme) → Exact xs (answer 0 (expect_term (root [])) xs)
exact xs = exact_from xs [] (expect_term (root [])) 0 refl refl

-- the tokens of a text have one list of clauses
pub only_clauses : (xs : List Lexeme) (cs ds : List ReadClause) → IsText true xs cs → IsText true xs ds → cs ≡ ds
only_clauses xs cs ds c d = sym (turned_whole cs) ∙ (ap (λ l. clauses_onto l []) (same_root (sym (reads xs cs c) ∙ reads xs ds d)) ∙ turned_whole ds)
  where
    turned_whole : (ds : List ReadClause) → clauses_onto (text_back ds []) [] ≡ ds
    turned_whole ds = reversed_back ds [] [] ∙ append-nil ds
