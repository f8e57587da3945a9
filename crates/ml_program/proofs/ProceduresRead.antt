-- What is read of the procedures of a loaded program.
use Rattle.std.proofs.Common.{◌≡◌, ℕ, suc, zero, ◌<◌, ◌≤◌, ◌^◌, List, [], ◌∷◌, ◌++◌, length, map, Some, None, refl, sym, ap, ◌∙◌, subst, get_or, take, ◌+◌, arith}
use Rattle.std.specs.Prelude.{Option, option_map, option_and_then, slice_get}
use Rattle.std.proofs.lemmas.Bool.{and_parts, leb-true}
use Rattle.std.proofs.lemmas.List.{length-map, map-append}
use Rattle.std.proofs.lemmas.Option.{slice_get-map, slice_get_read, slice_get_within}
use Rattle.ml_term.specs.declared.declaration.Decl.{Decl}
use Rattle.ml_term.specs.declared.declaration.Pred.{Pred}
use Rattle.ml_search.specs.declared.program.Program as P
use Rattle.ml_search.proofs.DeclarationsFound.{up_to}
use Rattle.ml_search.specs.Limits.{max_declarations}
use Rattle.ml_search.specs.Program.{Program}
use Rattle.ml_search.specs.ProgramSeen.{program_seen}
use Rattle.ml_compile.specs.declared.instr.Instr.{Instr}
use Rattle.ml_stack.specs.Memories.{CompiledProcedure, Contents, code_of}
use Rattle.ml_stack.specs.declared.frame.CodeName.TheVariants.{OfClause}
use Rattle.ml_program.specs.declared.procedure.LinkedProcedure.{LinkedProcedure}
use Rattle.ml_compile.specs.declared.instr.Instr.TheVariants.{Call as CallOf}
use Rattle.ml_program.specs.declared.link.Link.{Link}
use Rattle.ml_program.specs.Links.{link_of, link_beside}
use Rattle.ml_program.specs.LoadedProgram.{PredicateCodes, compiled_in, procedures_of, IsLoaded}
use Rattle.ml_program.specs.inside.Filing.{procedure_seen, AreFiled, AreFew}
use Rattle.ml_program.specs.inside.Linking.{loaded_seen, AreTablesOf, AreLinked, IsLinked, IsKept}
use Rattle.ml_program.proofs.ProgramsLoaded.{loaded, tables, as_many_spelled}

-- the codes of a linked procedure
abbrev pub codes_in : LinkedProcedure → PredicateCodes
codes_in l = procedure_seen l.procedure

pub linked_more : (program : Program) (ps : List CompiledProcedure) (xs : List LinkedProcedure) (x : LinkedProcedure) → AreLinked program ps xs →
    IsLinked program ps x → AreLinked program ps (xs ++ x ∷ [])
linked_more program ps [] x h one zero l at = let same : x ≡ l = cc at in subst (IsLinked program ps) same one
linked_more program ps [] x h one (suc p) l at = absurd (cc at)
linked_more program ps (y ∷ xs) x h one zero l at = h zero l at
linked_more program ps (y ∷ xs) x h one (suc p) l at = linked_more program ps xs x (λ q k a. h (suc q) k a) one p l at

-- one more of a list that is mapped
pub one_more_mapped : {A B : Type 0} (g : A → B) (xs : List A) (i : ℕ) (x : A) → slice_get xs i ≡ Some x →
    map g (take i xs) ++ g x ∷ [] ≡ map g (take (i + 1) xs)
one_more_mapped g xs i x at = sym (map-append g (take i xs) (x ∷ [])) ∙ ap (map g) (up_to xs i x at)

-- a program has few declarations
pub few_declared : (program : P.Program) → length program.decls < 2 ^ 32
few_declared program =
    let few : length program.decls ≤ max_declarations =
    leb-true (length program.decls) max_declarations (and_parts _ _ (and_parts _ _ (and_parts _ _ program.well_formed).0).0).1 in
    omega (arith, few)

pub kept : (program : P.Program) (ls : List LinkedProcedure) (ds : List PredicateCodes) (decls : List Decl) (places : List Pred) → map codes_in ls ≡ ds →
    AreFiled (program_seen program).clauses ds → AreFew ds → decls ≡ program.decls → places ≡ map (λ (d : PredicateCodes). d.pred) ds →
    ((q : Program) (ps : List CompiledProcedure) → AreTablesOf q ps decls places → AreLinked q ps ls) → IsKept program ls decls places
kept program ls ds decls places same filed few declared keys linked =
    let q = program_seen program in
    let there : AreTablesOf q (procedures_of (loaded_seen program ls)) decls places =
    subst (λ xs. AreTablesOf q (map (compiled_in q) xs) decls places) (sym same) (tables q ds filed few decls places declared (few_declared program) keys) in
    record {
      loaded = subst (λ xs. IsLoaded q (map (compiled_in q) xs)) (sym same) (loaded q ds filed few);
      tables = there;
      linked = linked q (procedures_of (loaded_seen program ls)) there;
    }

module _ (program : P.Program) (ls : List LinkedProcedure) where
  abbrev ps : List CompiledProcedure
  ps = procedures_of (loaded_seen program ls)

  read_at : (i : ℕ) (x : LinkedProcedure) → slice_get ls i ≡ Some x → slice_get ps i ≡ Some (compiled_in (program_seen program) (codes_in x))
  read_at i x at =
      slice_get-map (compiled_in (program_seen program)) (map codes_in ls) i
      ∙ ap (λ o. option_map (compiled_in (program_seen program)) o) (slice_get-map codes_in ls i ∙ ap (λ o. option_map codes_in o) at)

  pub code_read : (M : Contents) (i k : ℕ) (x : LinkedProcedure) → slice_get ls i ≡ Some x →
      code_of ps M (OfClause i k) ≡ slice_get x.procedure.codes.items k
  code_read M i k x at = ap (λ o. option_and_then (λ (d : CompiledProcedure). slice_get d.codes k) o) (read_at i x at)

  pub is_there : (i : ℕ) (d : CompiledProcedure) → slice_get ps i ≡ Some d → i < length ls
  is_there i d at =
      omega
      (arith, slice_get_within ps i d at, length-map (map codes_in ls) (compiled_in (program_seen program)), length-map ls codes_in)

  there_with_code : (o : Option CompiledProcedure) (k : ℕ) (code : List Instr) →
      option_and_then (λ (d : CompiledProcedure). slice_get d.codes k) o ≡ Some code → (d : CompiledProcedure) × (o ≡ Some d)
  there_with_code None k code e = absurd (cc e)
  there_with_code (Some d) k code e = (d, refl)

  -- what a code's name means, where the procedure was read
  pub found_code : (M : Contents) (i k : ℕ) (code : List Instr) (x : LinkedProcedure) → code_of ps M (OfClause i k) ≡ Some code → x ≡ get_or ls i x →
      (slice_get ls i ≡ Some x) × (slice_get x.procedure.codes.items k ≡ Some code)
  found_code M i k code x e is =
      let d = there_with_code (slice_get ps i) k code e in
      let at : slice_get ls i ≡ Some x = slice_get_read ls (length ls) i x refl (is_there i d.0 d.1) is in
      (at, sym (code_read M i k x at) ∙ e)

  -- a link that was read
  pub link_kept : AreLinked (program_seen program) ps ls → (M : Contents) (i k place : ℕ) (code : List Instr) (g : Pred) (x : LinkedProcedure)
      (beside : List Link) (link : Link) → code_of ps M (OfClause i k) ≡ Some code → slice_get code place ≡ Some (CallOf g) → x ≡ get_or ls i x →
      beside ≡ get_or x.links.items k beside → k < length x.links.items → link ≡ get_or beside place link → place < length beside →
      link ≡ link_of (program_seen program) ps g.name g.arity
  link_kept linked M i k place code g x beside link e stands is_x is_beside within is_link inside =
      let q = program_seen program in
      let found = found_code M i k code x e is_x in
      let row : slice_get x.links.items k ≡ Some beside = slice_get_read x.links.items (length x.links.items) k beside refl within is_beside in
      let rows : Some beside ≡ Some (map (link_beside q ps) code) =
      sym row ∙ ap (λ ls'. slice_get ls' k) (linked i x found.0).links ∙ slice_get-map (map (link_beside q ps)) x.procedure.codes.items k
      ∙ ap (λ o. option_map (map (link_beside q ps)) o) found.1 in
      let same : beside ≡ map (link_beside q ps) code = cc rows in
      let one : Some link ≡ Some (link_of q ps g.name g.arity) =
      sym (slice_get_read beside (length beside) place link refl inside is_link) ∙ ap (λ l. slice_get l place) same
      ∙ slice_get-map (link_beside q ps) code place ∙ ap (λ o. option_map (link_beside q ps) o) stands in
      cc one

  -- the procedure that was read
  pub is_read : (i : ℕ) (d : CompiledProcedure) (x : LinkedProcedure) → slice_get ps i ≡ Some d → x ≡ get_or ls i x →
      compiled_in (program_seen program) (codes_in x) ≡ d
  is_read i d x at is =
      let there : slice_get ls i ≡ Some x = slice_get_read ls (length ls) i x refl (is_there i d at) is in
      let same : Some (compiled_in (program_seen program) (codes_in x)) ≡ Some d = sym (read_at i x there) ∙ at in
      cc same

  pub clauses_read : (i : ℕ) (d : CompiledProcedure) (x : LinkedProcedure) → IsLoaded (program_seen program) ps → slice_get ps i ≡ Some d →
      x ≡ get_or ls i x → length x.procedure.codes.items ≡ length d.clauses
  clauses_read i d x h at is =
      ap (λ (e : CompiledProcedure). length e.codes) (is_read i d x at is) ∙ as_many_spelled (h.compiled i d at).spelled

  pub few_read : (i : ℕ) (d : CompiledProcedure) (x : LinkedProcedure) → IsLoaded (program_seen program) ps → slice_get ps i ≡ Some d →
      x ≡ get_or ls i x → length x.procedure.codes.items < 2 ^ 32
  few_read i d x h at is =
      omega (arith, ap (λ (e : CompiledProcedure). length e.codes) (is_read i d x at is), (h.compiled i d at).few)
