-- What a term declares, taken apart. No public clause cites this module.
use Rattle.std.specs.Prelude.{ℕ, nat_le, ℤ, pos, negsuc, Bool, ◌&&◌, not, List, [], ◌∷◌, Option}
use Rattle.std.specs.Prelude.{Some, None, option_map, if◌then◌else◌, codes}
use Rattle.std.specs.Str.{bytes_eq}
use Rattle.ml_term.specs.Limits.{max_arguments}
use Rattle.ml_term.specs.Tree.{Tree, integer, atom, compound, no_trees, tree}
use Rattle.ml_term.specs.Keys.{are_keys, default_keys}
use Rattle.ml_term.specs.declared.declaration.Decl.{Decl}
use Rattle.ml_term.specs.declared.declaration.Pred.{Pred}
use Rattle.ml_term.specs.declared.declaration.Kind.{Kind}
use Rattle.ml_term.specs.declared.declaration.Kind.TheVariants.{Relation, Clauses}
use Rattle.ml_search.specs.Procedures.{is_reserved}

-- a declaration without the fact that its keys are keys
pub record DeclarationParts : Type 0 where
  pub pred : Pred
  pub kind : Kind
  pub keys : List ℕ

-- what a declaration says
abbrev pub parts_of_declaration : Decl → DeclarationParts
parts_of_declaration d = record { pred = d.pred; kind = d.kind; keys = d.keys }

-- whether this may be declared
abbrev pub may_be_declared : DeclarationParts → Bool
may_be_declared s = are_keys s.pred.arity s.keys && not (is_reserved s.pred.name s.pred.arity)

-- what may be declared
abbrev pub if_declarable : DeclarationParts → Option DeclarationParts
if_declarable s = if may_be_declared s then Some s else None

-- the kind of a name
abbrev pub kind_by_name : List ℕ → Option Kind
kind_by_name f =
    if bytes_eq (codes "relation") f then Some Relation
    else (if bytes_eq (codes "clauses") f then Some Clauses else None)

-- a number that may be an arity or a key
abbrev pub byte_number : ℤ → Option ℕ
byte_number (pos n) = if nat_le n max_arguments then Some n else None
byte_number (negsuc n) = None

-- an integer that may be an arity or a key
abbrev pub small_integer : Tree → Option ℕ
small_integer (integer z) = byte_number z
small_integer t = None

-- a name with a number of arguments
abbrev pub pred_with_arity : List ℕ → Option ℕ → Option Pred
pred_with_arity f None = None
pred_with_arity f (Some n) = Some (record { name = f; arity = n })

-- a name and a number of arguments, by their terms
abbrev pub pred_by_terms : Tree → Tree → Option Pred
pred_by_terms (atom f) u = pred_with_arity f (small_integer u)
pred_by_terms t u = None

-- `NAME/ARITY`
abbrev pub predicate : Tree → Option Pred
predicate (compound f (tree t (tree u no_trees))) =
    if bytes_eq (codes "/") f then pred_by_terms t u else None
predicate t = None

-- a number in front of others
abbrev pub in_front : Option ℕ → Option (List ℕ) → Option (List ℕ)
in_front None ks = None
in_front (Some k) ks = option_map (λ ks. k ∷ ks) ks

-- the head of a list's cell, and what follows it
abbrev pub cell_parts : Tree → Option (Tree × Tree)
cell_parts (compound f (tree t (tree u no_trees))) =
    if bytes_eq (codes ".") f then Some (t, u) else None
cell_parts t = None

-- a list of numbers
abbrev pub numbers : Tree → Option (List ℕ)
numbers (atom f) = if bytes_eq (codes "[]") f then Some [] else None
numbers (compound f (tree t (tree u no_trees))) =
    if bytes_eq (codes ".") f then in_front (small_integer t) (numbers u) else None
numbers t = None

-- without keys
abbrev pub without_keys : Kind → Option Pred → Option DeclarationParts
without_keys k None = None
without_keys k (Some p) = if_declarable (record { pred = p; kind = k; keys = default_keys p.arity })

-- with keys
abbrev pub with_keys : Kind → Option Pred → Option (List ℕ) → Option DeclarationParts
with_keys k None ks = None
with_keys k (Some p) None = None
with_keys k (Some p) (Some ks) = if_declarable (record { pred = p; kind = k; keys = ks })

-- without keys, by the name of the kind
abbrev pub without_keys_of : Option Kind → Tree → Option DeclarationParts
without_keys_of None t = None
without_keys_of (Some k) t = without_keys k (predicate t)

-- with keys, by the name of the kind
abbrev pub with_keys_of : Option Kind → Tree → Tree → Option DeclarationParts
with_keys_of None t u = None
with_keys_of (Some k) t u = with_keys k (predicate t) (numbers u)

-- what a term declares
abbrev pub declaration_parts : Tree → Option DeclarationParts
declaration_parts (compound f (tree t no_trees)) = without_keys_of (kind_by_name f) t
declaration_parts (compound f (tree t (tree u no_trees))) = with_keys_of (kind_by_name f) t u
declaration_parts t = None
