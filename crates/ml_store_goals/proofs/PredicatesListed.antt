-- What the checks of a predicate find, by what is known of it.
use Rattle.std.specs.Prelude.{◌≡◌, ℕ, Bool, true, false, ◌||◌, not, List, [], ◌∷◌, length, Option, Some, None, is_some, unwrap_or}
use Rattle.std.proofs.Common.{refl, ap, ◌∙◌, arith}
use Rattle.ml_term.specs.Tree.{Tree, arity, trees_of}
use Rattle.ml_term.specs.declared.declaration.Kind.{Kind}
use Rattle.ml_search.specs.Errors.{existence_error, permission_error, first_fault}
use Rattle.ml_search.specs.Procedures.{is_reserved, is_defined, is_unknown}
use Rattle.ml_search.specs.Program.{Program, declaration_of, holds_of}
use Rattle.ml_program.specs.DeclaredLists.{IsDeclaredAs}
use Rattle.ml_store_goals.specs.inside.Checks.{is_of_kind, list_fault, list_named}

-- how many arguments a compound has
pub count_arguments : (ts : List Tree) → arity (trees_of ts) ≡ length ts
count_arguments [] = refl
count_arguments (t ∷ ts) = omega (arith, count_arguments ts)

module _ (p : Program) (kind : Kind) (f : List ℕ) (n : ℕ) where
  -- what two checks find
  abbrev found_by : Bool → Bool → Option Tree
  found_by u h = first_fault ((u, existence_error f n) ∷ (not h, permission_error f n) ∷ [])

  module _ (found : Kind) (list : ℕ) (is : IsDeclaredAs p.decls f n found list) where
    known : is_unknown p f n ≡ false
    known = ap (λ o. not (is_reserved f n || is_some o || is_defined p f n)) is.found ∙ by (is_reserved f n)
      where
        by : (b : Bool) → not (b || true || is_defined p f n) ≡ false
        by true = refl
        by false = refl

    fault_is : (b : Bool) → is_of_kind kind is.decl ≡ b → list_fault p kind f n ≡ found_by false b
    fault_is b e =
        ap (λ u. found_by u (holds_of (is_of_kind kind) (declaration_of p.decls f n))) known
        ∙ ap (found_by false) (ap (holds_of (is_of_kind kind)) is.found ∙ e)

    pub no_fault : is_of_kind kind is.decl ≡ true → list_fault p kind f n ≡ None
    no_fault e = fault_is true e

    pub other_kind : is_of_kind kind is.decl ≡ false → list_fault p kind f n ≡ Some (permission_error f n)
    other_kind e = fault_is false e

    pub list_is : list_named p f n ≡ list
    list_is = ap (λ o. unwrap_or o (length p.decls)) is.place_is

  module _ (undeclared : declaration_of p.decls f n ≡ None) where
    fault_told : (u : Bool) → is_unknown p f n ≡ u → list_fault p kind f n ≡ found_by u false
    fault_told u e =
        ap (λ x. found_by x (holds_of (is_of_kind kind) (declaration_of p.decls f n))) e
        ∙ ap (λ o. found_by u (holds_of (is_of_kind kind) o)) undeclared

    pub none_there : is_unknown p f n ≡ true → list_fault p kind f n ≡ Some (existence_error f n)
    none_there e = fault_told true e

    pub no_list : is_unknown p f n ≡ false → list_fault p kind f n ≡ Some (permission_error f n)
    no_list e = fault_told false e
