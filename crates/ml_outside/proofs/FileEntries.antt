-- The finite map from names to bytes that a map with text keys stands for.
use Rattle.std.proofs.Common.{◌≡◌, ℕ, List, [], ◌∷◌, map, Bool, true, false, cond, refl, sym, ap, ◌∙◌, Some, Vec, String}
use Rattle.std.specs.Prelude.{Option, option_map}
use Rattle.std.specs.Ordering.{nat_cmp, is_eq, eq_by_cmp}
use Rattle.std.specs.Cmp.Lexicographic.{slice_cmp, nat_list_cmp_total, nat_list_eq_equiv}
use Rattle.std.specs.FinMap.{get, find, insert, get-from_entries, get-insert, same_map, slice_cmp-IsAntisymmetric, nat_cmp-IsAntisymmetric}
use Rattle.std.specs.String.{string_bytes, string_cmp}
use Rattle.std.specs.Str.{bytes_eq}
use Rattle.std.specs.BTreeMap.{BTreeMap, get_by_text, is_at, UpdatesBy}
use Rattle.std.specs.Map.{lookup}
use Rattle.std.proofs.lemmas.Map.Text.{is_eq-slice_cmp, btree_map_updates_text}
use Rattle.std.specs.declared.alloc.Global.{Global}
use Rattle.ml_outside.specs.Memory.{entry_bytes, files_of}

-- the bytes of what was found
abbrev pub bytes_of : Option (Vec ℕ Global) → Option (List ℕ)
bytes_of found = option_map (λ v. v.items) found

-- the bytes of a choice are the choice of the bytes
over_cond : (b : Bool) (v : Vec ℕ Global) (rest : Option (Vec ℕ Global)) → cond b (Some v.items) (bytes_of rest) ≡ bytes_of (cond b (Some v) rest)
over_cond true v rest = refl
over_cond false v rest = refl

-- the first entry of a name has the bytes of the first value of that key
find_entry : (es : List (String Global × Vec ℕ Global)) (q : List ℕ)
    → find (slice_cmp nat_cmp) q (map entry_bytes es) ≡ bytes_of (lookup (is_at (λ k. slice_cmp nat_cmp q (string_bytes k))) es)
find_entry [] q = refl
find_entry (e ∷ es) q = ap (cond (is_eq (slice_cmp nat_cmp q (string_bytes e.0))) (Some e.1.items)) (find_entry es q)
    ∙ over_cond (is_eq (slice_cmp nat_cmp q (string_bytes e.0))) e.1 _

-- what is held under a name is what the map has there
pub get_files : (m : BTreeMap (String Global) (Vec ℕ Global)) (q : List ℕ) → get (files_of m.entries) q ≡ option_map (λ v. v.items) (get_by_text m q)
get_files m q = get-from_entries nat_list_cmp_total (map entry_bytes m.entries) q ∙ find_entry m.entries q

-- to put an entry is to insert its bytes
pub insert_files : (m n : BTreeMap (String Global) (Vec ℕ Global)) (k : List ℕ) (v : Vec ℕ Global)
    → UpdatesBy string_cmp (λ x. slice_cmp nat_cmp k (string_bytes x)) m n (Some v) → files_of n.entries ≡ insert (files_of m.entries) k v.items
insert_files m n k v h = same_map nat_list_cmp_total (slice_cmp-IsAntisymmetric nat_cmp-IsAntisymmetric) _ _ (λ q.
    get_files n q
    ∙ ap bytes_of (btree_map_updates_text k m n (Some v) h q)
    ∙ sym (over_cond (bytes_eq k q) v (get_by_text m q))
    ∙ ap (λ b. cond b (Some v.items) (bytes_of (get_by_text m q))) (nat_list_eq_equiv.symm k q ∙ sym (is_eq-slice_cmp q k))
    ∙ sym (get-insert nat_list_cmp_total (files_of m.entries) k v.items q ∙ ap (cond (eq_by_cmp (slice_cmp nat_cmp) q k) (Some v.items)) (get_files m q)))
