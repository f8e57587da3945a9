-- The text of an answer's bindings, one after another.
use Rattle.std.specs.Prelude.{◌≡◌, ℕ, List, [], ◌∷◌, ◌++◌, map, take, codes}
use Rattle.std.proofs.Common.{refl, sym, ap, ◌∙◌, append_assoc, append-nil}
use Rattle.std.specs.List.{flat_map}
use Rattle.std.proofs.lemmas.Grind.{flat_map-append}
use Rattle.ml_term.specs.Tree.{Tree, variables, firsts}
use Rattle.ml_term.specs.Text.{text_of}
use Rattle.ml_term.specs.Seen.{seen}
use Rattle.ml_term.specs.declared.term.Term.{Term}
use Rattle.ml_search.specs.Session.{bindings_text, line}
use Rattle.ml_writer.specs.AnswerText.{Bindings, names_of, terms_of, line_of_answer, bindings_seen}
use Rattle.ml_writer.proofs.AppendedTexts.{three_parts}
use Rattle.ml_writer.proofs.TermTexts.{same_text, met_both}

-- the text of some bindings of the code
abbrev pub text_of_bindings : List (List ℕ × Term) → List ℕ → List ℕ
text_of_bindings bs met = bindings_text (names_of (bindings_seen bs)) (terms_of (bindings_seen bs)) met

abbrev pub text_of_binding : List ℕ × Term → List ℕ → List ℕ
text_of_binding b met = b.0 ++ codes " = " ++ text_of (seen b.1) met

-- the variables that they meet
abbrev pub variables_of_bindings : List (List ℕ × Term) → List ℕ
variables_of_bindings = flat_map (λ b. variables (seen b.1))

-- one binding more
last_binding : (b : List ℕ × Term) (bs : List (List ℕ × Term)) (d : List ℕ × Term) (met : List ℕ)
    → text_of_bindings ((b ∷ bs) ++ d ∷ []) met ≡ text_of_bindings (b ∷ bs) met ++ (codes ", " ++ text_of_binding d (met ++ variables_of_bindings (b ∷ bs)))
last_binding b [] d met =
    append_assoc (text_of_binding b met) (codes ", ") (text_of_binding d (met ++ variables (seen b.1)))
    ∙ ap (λ z. text_of_binding b met ++ (codes ", " ++ text_of_binding d (met ++ z))) (sym (append-nil (variables (seen b.1))))
last_binding b (e ∷ bs) d met =
    let others = met ++ variables (seen b.1) in
    let front = text_of_binding b met ++ codes ", " in
    ap (λ z. front ++ z) (last_binding e bs d others)
    ∙ (sym (append_assoc front (text_of_bindings (e ∷ bs) others) (codes ", " ++ text_of_binding d (others ++ variables_of_bindings (e ∷ bs))))
    ∙ ap (λ z. (front ++ text_of_bindings (e ∷ bs) others) ++ (codes ", " ++ text_of_binding d z)) (append_assoc met (variables (seen b.1))
    (variables_of_bindings (e ∷ bs))))

-- what the loop over bindings keeps, of those that were put
pub record ArePut (start text met found : List ℕ) (bs : List (List ℕ × Term)) : Type 0 where
  pub text_is : text ≡ start ++ text_of_bindings bs met
  pub met_is : firsts found ≡ firsts (met ++ variables_of_bindings bs)

pub first_put : (start text met found : List ℕ) (b : List ℕ × Term) → text ≡ start ++ text_of_binding b met
    → firsts found ≡ firsts (met ++ variables (seen b.1)) → ArePut start text met found (b ∷ [])
first_put start text met found b e f = record { text_is = e; met_is = f ∙ ap (λ z. firsts (met ++ z)) (sym (append-nil (variables (seen b.1)))) }

pub next_put : (start text between more met found further : List ℕ) (b : List ℕ × Term) (bs : List (List ℕ × Term)) (d : List ℕ × Term)
    → ArePut start text met found (b ∷ bs)
    → between ≡ text ++ codes ", " → more ≡ between ++ text_of_binding d found → firsts further ≡ firsts (found ++ variables (seen d.1))
    → ArePut start more met further (b ∷ (bs ++ d ∷ []))
next_put start text between more met found further b bs d put e f g = record {
  text_is = three_parts start text between more (text_of_bindings (b ∷ bs) met) (codes ", ") (text_of_binding d found) put.text_is e f
      ∙ ap (λ z. start ++ z) (ap (λ z. text_of_bindings (b ∷ bs) met ++ (codes ", " ++ (d.0 ++ codes " = " ++ z)))
      (same_text (seen d.1) found (met ++ variables_of_bindings (b ∷ bs)) put.met_is)
      ∙ sym (last_binding b bs d met));
  met_is = met_both met found further (variables_of_bindings (b ∷ bs)) (variables (seen d.1)) put.met_is g
      ∙ ap (λ z. firsts (met ++ z)) (ap (λ z. variables_of_bindings (b ∷ bs) ++ z) (sym (append-nil (variables (seen d.1))))
      ∙ sym (flat_map-append (λ b. variables (seen b.1)) (b ∷ bs) (d ∷ [])));
}

-- the first of some bindings is put, and so many behind it
pub record SomeArePut (start text met found : List ℕ) (bs rest : List (List ℕ × Term)) (i : ℕ) : Type 0 where
  pub first : List ℕ × Term
  pub are : bs ≡ first ∷ rest
  pub put : ArePut start text met found (first ∷ take i rest)

-- only the names count
by_names : (es ds : List (List ℕ × ℕ)) (ts : List Tree) (met : List ℕ) → map (λ e. e.0) es ≡ map (λ d. d.0) ds
    → bindings_text es ts met ≡ bindings_text ds ts met
by_names [] [] ts met same = refl
by_names [] (d ∷ ds) ts met same = absurd (cc same)
by_names (e ∷ es) [] ts met same = absurd (cc same)
by_names (e ∷ []) (d ∷ []) [] met same = refl
by_names (e ∷ []) (d ∷ []) (t ∷ ts) met same = let name : e.0 ≡ d.0 = cc same in ap (λ z. z ++ codes " = " ++ text_of t met) name
by_names (e ∷ []) (d ∷ b ∷ ds) ts met same = absurd (cc same)
by_names (e ∷ b ∷ es) (d ∷ []) ts met same = absurd (cc same)
by_names (e ∷ b ∷ es) (d ∷ a ∷ ds) [] met same = refl
by_names (e ∷ b ∷ es) (d ∷ a ∷ ds) (t ∷ ts) met same =
    let name : e.0 ≡ d.0 = cc same in
    let rest : map (λ e. e.0) (b ∷ es) ≡ map (λ d. d.0) (a ∷ ds) = cc same in
    ap (λ z. z ++ codes " = " ++ text_of t met ++ codes ", " ++ bindings_text (b ∷ es) ts (met ++ variables t)) name
    ∙ ap (λ z. d.0 ++ codes " = " ++ text_of t met ++ codes ", " ++ z) (by_names (b ∷ es) (a ∷ ds) ts (met ++ variables t) rest)

names_are : (bs : Bindings) → map (λ e. e.0) (names_of bs) ≡ map (λ b. b.0) bs
names_are [] = refl
names_are (b ∷ bs) = ap (λ z. b.0 ∷ z) (names_are bs)

pub line_is : (es : List (List ℕ × ℕ)) (bs : Bindings) → map (λ b. b.0) bs ≡ map (λ e. e.0) es
    → line_of_answer bs ≡ line (codes "  " ++ bindings_text es (terms_of bs) [])
line_is es bs same = ap (λ z. line (codes "  " ++ z)) (by_names (names_of bs) es (terms_of bs) [] (names_are bs ∙ same))
