-- What a link tells of a predicate that isn't declared and is no built-in.
use Rattle.std.specs.Prelude.{◌≡◌, ℕ, Bool, true, false, ◌||◌, ◌==◌, not, cond, List, [], ◌∷◌, Option, Some, None, is_some, unwrap_or}
use Rattle.std.specs.Str.{bytes_eq}
use Rattle.std.specs.Cmp.Lexicographic.{bytes_decides}
use Rattle.std.proofs.Common.{refl, sym, ap, ◌∙◌, subst}
use Rattle.std.proofs.lemmas.Bool.{eqb-true, true≢false}
use Rattle.ml_search.specs.Builtins.{is_plain}
use Rattle.ml_search.specs.Names.{look_up}
use Rattle.ml_search.specs.Procedures.{control_names, store_names, has_name, is_reserved, is_defined, is_unknown}
use Rattle.ml_search.specs.Program.{Program, declaration_of, place_of}
use Rattle.ml_search.specs.Standing.{standing, standing_by}
use Rattle.ml_search.proofs.Standings.{standing_is}
use Rattle.ml_stack.specs.Memories.{CompiledProcedure}
use Rattle.ml_builtin.specs.Tables.{plain_of}
use Rattle.ml_program.specs.declared.link.ControlCall.{ControlCall}
use Rattle.ml_program.specs.declared.link.Link.TheVariants.{Unknown}
use Rattle.ml_program.specs.Links.{control_calls_1, control_calls_3, control_call, store_call, link_by, link_of, procedure_place}
use Rattle.ml_program.proofs.LinksMade.{link_is}

-- whether the entries of a table are control constructs of this arity
abbrev AreControl : ℕ → List (List ℕ × ControlCall) → Type 0
AreControl n [] = Unit {0}
AreControl n (e ∷ es) = (has_name control_names e.0 n ≡ true) × AreControl n es

found_control : (n : ℕ) (es : List (List ℕ × ControlCall)) (f : List ℕ) (c : ControlCall) → AreControl n es → look_up es f ≡ Some c →
    has_name control_names f n ≡ true
found_control n [] f c each e = absurd (cc e)
found_control n (x ∷ es) f c each e = by (bytes_eq x.0 f) refl e (found_control n es f c each.1)
  where
    by : (b : Bool) → bytes_eq x.0 f ≡ b → cond b (Some x.1) (look_up es f) ≡ Some c → (look_up es f ≡ Some c → has_name control_names f n ≡ true) →
        has_name control_names f n ≡ true
    by true h e again = let name : x.0 ≡ f = (bytes_decides x.0 f).0 h in subst (λ (g : List ℕ). has_name control_names g n ≡ true) name each.0
    by false h e again = again e

control_is_reserved : (f : List ℕ) (n : ℕ) (c : ControlCall) → control_call f n ≡ Some c → has_name control_names f n ≡ true
control_is_reserved f n c e = by (n == 1) refl (n == 3) refl e
  where
    by : (a : Bool) → (n == 1) ≡ a → (b : Bool) → (n == 3) ≡ b → cond a (look_up control_calls_1 f) (cond b (look_up control_calls_3 f) None) ≡ Some c →
        has_name control_names f n ≡ true
    by true h b k e =
        let one : n ≡ 1 = eqb-true n 1 h in
        subst (λ (m : ℕ). has_name control_names f m ≡ true) (sym one) (found_control 1 control_calls_1 f c (refl, (refl, (refl, (refl, tt)))) e)
    by false h true k e =
        let three : n ≡ 3 = eqb-true n 3 k in
        subst (λ (m : ℕ). has_name control_names f m ≡ true) (sym three) (found_control 3 control_calls_3 f c (refl, (refl, tt)) e)
    by false h false k e = absurd (cc e)

control_free : (f : List ℕ) (n : ℕ) → has_name control_names f n ≡ false → control_call f n ≡ None
control_free f n free = by (control_call f n) refl
  where
    by : (o : Option ControlCall) → control_call f n ≡ o → control_call f n ≡ None
    by None h = h
    by (Some c) h = absurd (true≢false (sym (control_is_reserved f n c h) ∙ free))

none_of : (a b c : Bool) → (a || b || c) ≡ false → (a ≡ false) × (b ≡ false) × (c ≡ false)
none_of false false false e = (refl, refl, refl)
none_of false false true e = absurd (cc e)
none_of false true c e = absurd (cc e)
none_of true b c e = absurd (cc e)

module _ (p : Program) (ps : List CompiledProcedure) (f : List ℕ) (n : ℕ) (free : is_reserved f n ≡ false)
    (undeclared : declaration_of p.decls f n ≡ None) where
  link_then : link_of p ps f n
      ≡ link_by None (standing_by false false None (unwrap_or (place_of p.decls f n) 0) (is_defined p f n)) (plain_of f n) (store_call f n)
      (unwrap_or (procedure_place ps f n) 0)
  link_then =
      let parts = none_of (has_name control_names f n) (has_name store_names f n) (is_plain f n) free in
      let k = unwrap_or (place_of p.decls f n) 0 in
      let q = unwrap_or (procedure_place ps f n) 0 in
      link_is p ps f n
      ∙ ap (λ o. link_by o (standing p f n) (plain_of f n) (store_call f n) q) (control_free f n parts.0)
      ∙ ap (λ s. link_by None s (plain_of f n) (store_call f n) q)
      (standing_is p f n
      ∙ ap (λ b. standing_by b (has_name store_names f n) (declaration_of p.decls f n) k (is_defined p f n)) parts.2
      ∙ ap (λ b. standing_by false b (declaration_of p.decls f n) k (is_defined p f n)) parts.1
      ∙ ap (λ d. standing_by false false d k (is_defined p f n)) undeclared)

  unknown_is : is_unknown p f n ≡ not (is_defined p f n)
  unknown_is =
      ap (λ b. not (b || is_some (declaration_of p.decls f n) || is_defined p f n)) free
      ∙ ap (λ d. not (false || is_some d || is_defined p f n)) undeclared

  pub unknown_told : link_of p ps f n ≡ Unknown → is_unknown p f n ≡ true
  unknown_told e = by (is_defined p f n) refl link_then
    where
      by : (b : Bool) → is_defined p f n ≡ b →
          link_of p ps f n
          ≡ link_by None (standing_by false false None (unwrap_or (place_of p.decls f n) 0) b) (plain_of f n) (store_call f n)
          (unwrap_or (procedure_place ps f n) 0) →
          is_unknown p f n ≡ true
      by true h l = absurd (cc (sym l ∙ e))
      by false h l = unknown_is ∙ ap not h

  pub known_told : (link_of p ps f n ≡ Unknown → ⊥) → is_unknown p f n ≡ false
  known_told e = by (is_defined p f n) refl link_then
    where
      by : (b : Bool) → is_defined p f n ≡ b →
          link_of p ps f n
          ≡ link_by None (standing_by false false None (unwrap_or (place_of p.decls f n) 0) b) (plain_of f n) (store_call f n)
          (unwrap_or (procedure_place ps f n) 0) →
          is_unknown p f n ≡ false
      by true h l = unknown_is ∙ ap not h
      by false h l = absurd (e l)
