-- A link, by what the code's tables say.
use Rattle.std.proofs.Common.{◌≡◌, ℕ, suc, zero, Bool, true, false, List, [], ◌∷◌, Some, None, refl, sym, ap, ◌∙◌, cond}
use Rattle.std.specs.Prelude.{Option, option_map, unwrap_or, slice_get, is_some}
use Rattle.ml_term.specs.declared.declaration.Decl.{Decl}
use Rattle.ml_search.specs.Program.{Program, place_of, declaration_of, has_predicate}
use Rattle.ml_search.specs.Procedures.{has_name, store_names, is_defined}
use Rattle.ml_search.specs.Standing.{standing, standing_by}
use Rattle.ml_search.proofs.Standings.{standing_is}
use Rattle.ml_stack.specs.Memories.{CompiledProcedure}
use Rattle.ml_builtin.specs.Tables.{plain_of}
use Rattle.ml_builtin.specs.declared.plain.Plain as B
use Rattle.ml_builtin.proofs.PlainsFound.{has_plain}
use Rattle.ml_program.specs.declared.link.ControlCall.{ControlCall}
use Rattle.ml_program.specs.declared.link.StoreCall.{StoreCall}
use Rattle.ml_program.specs.declared.link.Link.{Link}
use Rattle.ml_program.specs.declared.link.Link.TheVariants.{Control, Plain, Store, Declared, Procedure, Unknown}
use Rattle.ml_program.specs.Links.{control_call, store_call, procedure_place, link_by, link_of}
use Rattle.ml_program.proofs.NamesFound.{has_store}

module _ (program : Program) (ps : List CompiledProcedure) (f : List ℕ) (n : ℕ) where
  -- a link by all the tables
  abbrev by_tables : Option ControlCall → Option B.Plain → Bool → Option Decl → ℕ → Bool → Option StoreCall → ℕ → Link
  by_tables o a s d k c t p = link_by o (standing_by (is_some a) s d k c) a t p

  pub link_is : link_of program ps f n
      ≡ link_by (control_call f n) (standing program f n) (plain_of f n) (store_call f n) (unwrap_or (procedure_place ps f n) 0)
  unfolding link_of
  link_is = refl

  tables_say : link_of program ps f n
      ≡ by_tables (control_call f n) (plain_of f n) (is_some (store_call f n)) (declaration_of program.decls f n) (unwrap_or (place_of program.decls f n) 0)
      (is_defined program f n) (store_call f n) (unwrap_or (procedure_place ps f n) 0)
  tables_say =
      link_is
      ∙ ap (λ s. link_by (control_call f n) s (plain_of f n) (store_call f n) (unwrap_or (procedure_place ps f n) 0)) (standing_is program f n)
      ∙ ap (λ a.
      link_by (control_call f n)
      (standing_by a (has_name store_names f n) (declaration_of program.decls f n) (unwrap_or (place_of program.decls f n) 0) (is_defined program f n))
      (plain_of f n) (store_call f n) (unwrap_or (procedure_place ps f n) 0)) (has_plain f n)
      ∙ ap (λ s.
      by_tables (control_call f n) (plain_of f n) s (declaration_of program.decls f n) (unwrap_or (place_of program.decls f n) 0) (is_defined program f n)
      (store_call f n) (unwrap_or (procedure_place ps f n) 0)) (has_store f n)

  pub control_link : (c : ControlCall) → control_call f n ≡ Some c → Control c ≡ link_of program ps f n
  control_link c e =
      sym (tables_say
      ∙ ap (λ o.
      by_tables o (plain_of f n) (is_some (store_call f n)) (declaration_of program.decls f n) (unwrap_or (place_of program.decls f n) 0)
      (is_defined program f n)
      (store_call f n) (unwrap_or (procedure_place ps f n) 0)) e)

  module _ (free : control_call f n ≡ None) where
    unless_control : link_of program ps f n
        ≡ by_tables None (plain_of f n) (is_some (store_call f n)) (declaration_of program.decls f n) (unwrap_or (place_of program.decls f n) 0)
        (is_defined program f n) (store_call f n) (unwrap_or (procedure_place ps f n) 0)
    unless_control =
        tables_say
        ∙ ap (λ o.
        by_tables o (plain_of f n) (is_some (store_call f n)) (declaration_of program.decls f n) (unwrap_or (place_of program.decls f n) 0)
        (is_defined program f n) (store_call f n) (unwrap_or (procedure_place ps f n) 0)) free

    pub plain_link : (b : B.Plain) → plain_of f n ≡ Some b → Plain b ≡ link_of program ps f n
    plain_link b e =
        sym (unless_control
        ∙ ap (λ a.
        by_tables None a (is_some (store_call f n)) (declaration_of program.decls f n) (unwrap_or (place_of program.decls f n) 0) (is_defined program f n)
        (store_call f n) (unwrap_or (procedure_place ps f n) 0)) e)

    module _ (fancy : plain_of f n ≡ None) where
      unless_plain : link_of program ps f n
          ≡ by_tables None None (is_some (store_call f n)) (declaration_of program.decls f n) (unwrap_or (place_of program.decls f n) 0)
          (is_defined program f n) (store_call f n) (unwrap_or (procedure_place ps f n) 0)
      unless_plain =
          unless_control
          ∙ ap (λ a.
          by_tables None a (is_some (store_call f n)) (declaration_of program.decls f n) (unwrap_or (place_of program.decls f n) 0) (is_defined program f n)
          (store_call f n) (unwrap_or (procedure_place ps f n) 0)) fancy

      with_store : Option StoreCall → Link
      with_store t =
          by_tables None None (is_some t) (declaration_of program.decls f n) (unwrap_or (place_of program.decls f n) 0) (is_defined program f n) t
          (unwrap_or (procedure_place ps f n) 0)

      pub store_link : (k : StoreCall) → store_call f n ≡ Some k → Store k ≡ link_of program ps f n
      unfolding with_store
      store_link k e = sym (unless_plain ∙ ap with_store e)

      module _ (reads : store_call f n ≡ None) where
        unless_store : link_of program ps f n
            ≡ by_tables None None false (declaration_of program.decls f n) (unwrap_or (place_of program.decls f n) 0) (is_defined program f n) None
            (unwrap_or (procedure_place ps f n) 0)
        unfolding with_store
        unless_store = unless_plain ∙ ap with_store reads

        pub declared_link : (d : Decl) (k : ℕ) → declaration_of program.decls f n ≡ Some d → place_of program.decls f n ≡ Some k →
            Declared d.kind k ≡ link_of program ps f n
        declared_link d k e place =
            sym (unless_store
            ∙ ap (λ o.
            by_tables None None false o (unwrap_or (place_of program.decls f n) 0) (is_defined program f n) None (unwrap_or (procedure_place ps f n) 0)) e
            ∙ ap (λ o. Declared d.kind (unwrap_or o 0)) place)

        module _ (undeclared : declaration_of program.decls f n ≡ None) where
          unless_declared : link_of program ps f n
              ≡ by_tables None None false None (unwrap_or (place_of program.decls f n) 0) (is_defined program f n) None (unwrap_or (procedure_place ps f n) 0)
          unless_declared =
              unless_store
              ∙ ap (λ o.
              by_tables None None false o (unwrap_or (place_of program.decls f n) 0) (is_defined program f n) None (unwrap_or (procedure_place ps f n) 0))
              undeclared

          module _ (defined : is_some (procedure_place ps f n) ≡ is_defined program f n) where
            pub procedure_link : (p : ℕ) → procedure_place ps f n ≡ Some p → Procedure p ≡ link_of program ps f n
            procedure_link p e =
                sym (unless_declared
                ∙ ap (λ c. by_tables None None false None (unwrap_or (place_of program.decls f n) 0) c None (unwrap_or (procedure_place ps f n) 0))
                (sym defined)
                ∙ ap (λ o. by_tables None None false None (unwrap_or (place_of program.decls f n) 0) (is_some o) None (unwrap_or o 0)) e)

            pub unknown_link : procedure_place ps f n ≡ None → Unknown ≡ link_of program ps f n
            unknown_link e =
                sym (unless_declared
                ∙ ap (λ c. by_tables None None false None (unwrap_or (place_of program.decls f n) 0) c None (unwrap_or (procedure_place ps f n) 0))
                (sym defined)
                ∙ ap (λ o. by_tables None None false None (unwrap_or (place_of program.decls f n) 0) (is_some o) None (unwrap_or o 0)) e)

-- a declaration is found where its place is
pub declaration_found : (ds : List Decl) (f : List ℕ) (n k : ℕ) (d : Decl) → place_of ds f n ≡ Some k → slice_get ds k ≡ Some d →
    declaration_of ds f n ≡ Some d
declaration_found [] f n k d place at = absurd (cc place)
declaration_found (e ∷ ds) f n k d place at =
    by (has_predicate f n e) (place_of ds f n) k refl place at (λ j. declaration_found ds f n j d)
  where
    by : (b : Bool) (r : Option ℕ) (k : ℕ) → place_of ds f n ≡ r → cond b (Some 0) (option_map suc r) ≡ Some k → slice_get (e ∷ ds) k ≡ Some d →
        ((j : ℕ) → place_of ds f n ≡ Some j → slice_get ds j ≡ Some d → declaration_of ds f n ≡ Some d) →
        cond b (Some e) (declaration_of ds f n) ≡ Some d
    by true r zero is place at again = at
    by true r (suc k) is place at again = absurd (cc place)
    by false None k is place at again = absurd (cc place)
    by false (Some j) zero is place at again = absurd (cc place)
    by false (Some j) (suc k) is place at again = let same : j ≡ k = cc place in again k (is ∙ ap Some same) at

pub no_declaration_found : (ds : List Decl) (f : List ℕ) (n : ℕ) → place_of ds f n ≡ None → declaration_of ds f n ≡ None
no_declaration_found [] f n none = refl
no_declaration_found (e ∷ ds) f n none = by (has_predicate f n e) (place_of ds f n) refl none (no_declaration_found ds f n)
  where
    by : (b : Bool) (r : Option ℕ) → place_of ds f n ≡ r → cond b (Some 0) (option_map suc r) ≡ None →
        (place_of ds f n ≡ None → declaration_of ds f n ≡ None) → cond b (Some e) (declaration_of ds f n) ≡ None
    by true r is none again = absurd (cc none)
    by false None is none again = again is
    by false (Some k) is none again = absurd (cc none)
