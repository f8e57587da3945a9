-- Clauses are rules of one program with one list of items, or go wrong first at one place.
use Rattle.std.specs.Prelude.{◌≡◌, ℕ, Bool, true, IsSome, is_some, List, [], ◌∷◌, ◌++◌, Some, None}
use Rattle.std.specs.List.{list_all, filter_map, cons_option, AllZip}
use Rattle.std.proofs.Common.{refl, sym, ap, subst, ◌∙◌}
use Rattle.std.proofs.lemmas.Bool.{and_parts, and_from, true≢false}
use Rattle.std.proofs.Math.Bool.{Bool-set}
use Rattle.ml_term.specs.Tree.{Tree}
use Rattle.ml_term.specs.Keys.{are_keys}
use Rattle.ml_term.specs.declared.declaration.Decl.{Decl}
use Rattle.ml_search.specs.Program.{Program, place_of}
use Rattle.ml_search.specs.WellFormed.{are_declared_once}
use Rattle.ml_search.proofs.DeclarationsFound.{declared_before}
use Rattle.ml_reader.specs.Lexemes.{ReadClause}
use Rattle.ml_reader.specs.Declarations.{Declares}
use Rattle.ml_reader.specs.inside.rules.DeclarationSteps.{DeclarationParts, parts_of_declaration}
use Rattle.ml_reader.specs.Faults.{fault}
use Rattle.ml_reader.specs.Forms.{directive, form, directive_of, directives, ComesNext}
use Rattle.ml_reader.specs.Rules.{Declare, Part, wrong_part, is_right, part, parts, clause_part, item_part, AreRules, RulesGoWrong, bad_declaration}
use Rattle.ml_reader.specs.Rules.{declared_twice, wrong_clause}
use Rattle.ml_reader.specs.declared.fault.ReadFault.{ReadFault}
use Rattle.ml_reader.specs.declared.fault.ReadKind.{ReadKind}
use Rattle.ml_reader.specs.declared.fault.ReadKind.TheVariants.{BadDeclaration, TwiceDeclared}
use Rattle.ml_reader.proofs.RuleReading.DeclarationsInOrder.{filter_map-append}
use Rattle.ml_reader.proofs.RuleReading.DeclarationTerms.{said_declared, same_pred}

-- which of two places in some clauses comes first
pub data Placed (xs : List ReadClause) (x : ReadClause) (ys : List ReadClause) (y : ReadClause) : Type 0 where
  same_clause_place : xs ≡ ys → x ≡ y → Placed xs x ys y
  before_it : (more : List ReadClause) → ys ≡ xs ++ x ∷ more → Placed xs x ys y
  behind_it : (more : List ReadClause) → xs ≡ ys ++ y ∷ more → Placed xs x ys y

first_of : (x y : ReadClause) (xs ys : List ReadClause) → x ∷ xs ≡ y ∷ ys → x ≡ y
first_of x y xs ys e = cc e

rest_of : (x y : ReadClause) (xs ys : List ReadClause) → x ∷ xs ≡ y ∷ ys → xs ≡ ys
rest_of x y xs ys e = cc e

place_order : (xs : List ReadClause) (x : ReadClause) (ys : List ReadClause) (y : ReadClause) (us vs : List ReadClause) → xs ++ x ∷ us ≡ ys ++ y ∷ vs
    → Placed xs x ys y
place_order [] x [] y us vs e = same_clause_place refl (first_of x y us vs e)
place_order [] x (z ∷ ys) y us vs e = before_it ys (ap (λ w. w ∷ ys) (sym (first_of x z us (ys ++ y ∷ vs) e)))
place_order (w ∷ xs) x [] y us vs e = behind_it xs (ap (λ z. z ∷ xs) (first_of w y (xs ++ x ∷ us) vs e))
place_order (w ∷ xs) x (z ∷ ys) y us vs e = by (first_of w z _ _ e) (place_order xs x ys y us vs (rest_of w z _ _ e))
  where
    by : w ≡ z → Placed xs x ys y → Placed (w ∷ xs) x (z ∷ ys) y
    by h (same_clause_place i j) = same_clause_place (ap (λ v. v ∷ xs) h ∙ ap (λ vs. z ∷ vs) i) j
    by h (before_it more i) = before_it more (ap (λ v. v ∷ ys) (sym h) ∙ ap (λ vs. w ∷ vs) i)
    by h (behind_it more i) = behind_it more (ap (λ v. v ∷ xs) h ∙ ap (λ vs. z ∷ vs) i)

pub which_first : (cs xs : List ReadClause) (x : ReadClause) (ys : List ReadClause) (y : ReadClause) → ComesNext cs xs x → ComesNext cs ys y → Placed xs x ys y
which_first cs xs x ys y h k = place_order xs x ys y h.after k.after (sym h.whole ∙ k.whole)

-- a declaration is what it says
abbrev from_said : (s : DeclarationParts) → are_keys s.pred.arity s.keys ≡ true → Decl
from_said s h = record { pred = s.pred; kind = s.kind; keys = s.keys; keyed = h }

bools : (a b : Bool) (h k : a ≡ b) → h ≡ k
bools a b h k = Bool-set a b h k

same_said : (s t : DeclarationParts) → s ≡ t → (h : are_keys s.pred.arity s.keys ≡ true) (k : are_keys t.pred.arity t.keys ≡ true)
    → from_said s h ≡ from_said t k
same_said s t e h =
    let P : DeclarationParts → Type 0 = λ t. (k : are_keys t.pred.arity t.keys ≡ true) → from_said s h ≡ from_said t k in
    subst P e (λ k. ap (from_said s) (bools _ _ h k))

pub one_declaration : (t : Tree) (d e : Decl) → Declares t d → Declares t e → d ≡ e
one_declaration t d e h k =
    same_said (parts_of_declaration d) (parts_of_declaration e) (same_pred _ _ (sym (said_declared t d h) ∙ said_declared t e k)) d.keyed e.keyed

each_once : (ts : List Tree) (ds es : List Decl) → AllZip Declares ts ds → AllZip Declares ts es → ds ≡ es
each_once [] [] [] h k = refl
each_once [] [] (e ∷ es) h k = absurd k
each_once [] (d ∷ ds) es h k = absurd h
each_once (t ∷ ts) [] es h k = absurd h
each_once (t ∷ ts) (d ∷ ds) [] h k = absurd k
each_once (t ∷ ts) (d ∷ ds) (e ∷ es) h k = ap (λ x. x ∷ ds) (one_declaration t d e h.0 k.0) ∙ ap (λ xs. e ∷ xs) (each_once ts ds es h.1 k.1)

pub declare_once : (cs : List ReadClause) (ds es : List Decl) → Declare cs ds → Declare cs es → ds ≡ es
declare_once cs ds es h k = each_once (directives cs) ds es h.each k.each

-- the declarations behind which a term declares one more
record Through (ts : List Tree) (t : Tree) (ds : List Decl) : Type 0 where
  front : List Decl
  here : Decl
  back : List Decl
  whole : ds ≡ front ++ here ∷ back
  each : AllZip Declares ts front
  declares : Declares t here

through : (ts : List Tree) (t : Tree) (us : List Tree) (ds : List Decl) → AllZip Declares (ts ++ t ∷ us) ds → Through ts t ds
through [] t us [] h = absurd h
through [] t us (d ∷ ds) h = record { front = []; here = d; back = ds; whole = refl; each = tt; declares = h.0 }
through (s ∷ ts) t us [] h = absurd h
through (s ∷ ts) t us (d ∷ ds) h =
    let k = through ts t us ds h.1 in
    record { front = d ∷ k.front; here = k.here; back = k.back; whole = ap (λ xs. d ∷ xs) k.whole; each = (h.0, k.each); declares = k.declares }

-- where some clauses declare predicates, each of them declares one that those before it don't declare
record DeclaresNext (before : List ReadClause) (t : Tree) : Type 0 where
  front : List Decl
  here : Decl
  declared : Declare before front
  declares : Declares t here
  other : place_of front here.pred.name here.pred.arity ≡ None

declares_next : (before after : List ReadClause) (c : ReadClause) (t : Tree) (ds : List Decl) → Declare (before ++ c ∷ after) ds → form c.term ≡ directive t
    → DeclaresNext before t
declares_next before after c t ds h is =
    let split : directives (before ++ c ∷ after) ≡ directives before ++ t ∷ directives after =
    filter_map-append (λ c. directive_of (form c.term)) before (c ∷ after)
    ∙ ap (λ x. directives before ++ cons_option (directive_of x) (directives after)) is in
    let k = through (directives before) t (directives after) ds (subst (λ ts. AllZip Declares ts ds) split h.each) in
    let once = declared_before k.front k.here k.back (sym (ap are_declared_once k.whole) ∙ h.once) in
    record { front = k.front; here = k.here; declared = record { each = k.each; once = once.0 }; declares = k.declares; other = once.1 }

-- neither is then a declaration that is none
not_bad : (before : List ReadClause) (t : Tree) → DeclaresNext before t → ((d : Decl) → Declares t d → ⊥) → ⊥
not_bad before t h none = none h.here h.declares

-- nor one that stands there again
not_twice : (before : List ReadClause) (t : Tree) (ds : List Decl) (d : Decl) → DeclaresNext before t → Declare before ds → Declares t d
    → IsSome (place_of ds d.pred.name d.pred.arity) → ⊥
not_twice before t ds d h k declares there =
    let none : place_of ds d.pred.name d.pred.arity ≡ None =
    ap (λ d. place_of ds d.pred.name d.pred.arity) (one_declaration t d h.here declares h.declares)
    ∙ ap (λ ds. place_of ds h.here.pred.name h.here.pred.arity) (declare_once before ds h.front k h.declared)
    ∙ h.other in
    true≢false (sym there ∙ ap is_some none)

-- a clause that declares nothing new behind the others
record Bad (before : List ReadClause) (c : ReadClause) : Type 0 where
  term : Tree
  is : form c.term ≡ directive term
  never : DeclaresNext before term → ⊥

never_later : (before more : List ReadClause) (c : ReadClause) (ds : List Decl) → Bad before c → Declare (before ++ c ∷ more) ds → ⊥
never_later before more c ds h k = h.never (declares_next before more c h.term ds k h.is)

never_among : (cs before : List ReadClause) (c : ReadClause) (ds : List Decl) → Bad before c → ComesNext cs before c → Declare cs ds → ⊥
never_among cs before c ds h next k = never_later before next.after c ds h (subst (λ cs. Declare cs ds) next.whole k)

-- two such clauses stand at one place
one_bad_place : (cs xs : List ReadClause) (x : ReadClause) (ds : List Decl) (ys : List ReadClause) (y : ReadClause) (es : List Decl)
    → Bad xs x → ComesNext cs xs x → Declare xs ds → Bad ys y → ComesNext cs ys y → Declare ys es → x ≡ y
one_bad_place cs xs x ds ys y es bx nx dx by ny dy = at (which_first cs xs x ys y nx ny)
  where
    at : Placed xs x ys y → x ≡ y
    at (same_clause_place i j) = j
    at (before_it more i) = absurd (never_later xs more x es bx (subst (λ zs. Declare zs es) i dy))
    at (behind_it more i) = absurd (never_later ys more y ds by (subst (λ zs. Declare zs ds) i dx))

none_bad : (before : List ReadClause) (c : ReadClause) (t : Tree) → form c.term ≡ directive t → ((d : Decl) → Declares t d → ⊥) → Bad before c
none_bad before c t is none = record { term = t; is = is; never = λ h. not_bad before t h none }

twice_bad : (before : List ReadClause) (c : ReadClause) (ds : List Decl) (t : Tree) (d : Decl) → Declare before ds → form c.term ≡ directive t → Declares t d
    → IsSome (place_of ds d.pred.name d.pred.arity) → Bad before c
twice_bad before c ds t d h is declares there = record { term = t; is = is; never = λ k. not_twice before t ds d k h declares there }

same_directive : (x y : ReadClause) (t u : Tree) → x ≡ y → form x.term ≡ directive t → form y.term ≡ directive u → t ≡ u
same_directive x y t u e is isn't = let both : directive t ≡ directive u = sym is ∙ ap (λ x. form x.term) e ∙ isn't in cc both

all_right : (ps qs : List Part) → list_all is_right (ps ++ qs) ≡ true → (list_all is_right ps ≡ true) × (list_all is_right qs ≡ true)
all_right [] qs e = (refl, e)
all_right (p ∷ ps) qs e =
    let here = and_parts (is_right p) _ e in
    let rest = all_right ps qs here.1 in
    (and_from _ _ here.0 rest.0, rest.1)

-- no clause that is wrong stands among right ones
never_right : (ds : List Decl) (before more : List ReadClause) (c : ReadClause) (k : ReadKind) → part ds (form c.term) ≡ Some (wrong_part k)
    → list_all is_right (parts ds (before ++ c ∷ more)) ≡ true → ⊥
never_right ds before more c k is right =
    let split : parts ds (before ++ c ∷ more) ≡ parts ds before ++ wrong_part k ∷ parts ds more =
    filter_map-append (λ c. part ds (form c.term)) before (c ∷ more) ∙ ap (λ r. parts ds before ++ cons_option r (parts ds more)) is in
    let rest = all_right (parts ds before) (wrong_part k ∷ parts ds more) (sym (ap (list_all is_right) split) ∙ right) in
    true≢false (sym rest.1)

one_wrong_place : (cs xs : List ReadClause) (x : ReadClause) (k : ReadKind) (ys : List ReadClause) (y : ReadClause) (l : ReadKind) (ds : List Decl)
    → ComesNext cs xs x → list_all is_right (parts ds xs) ≡ true → part ds (form x.term) ≡ Some (wrong_part k)
    → ComesNext cs ys y → list_all is_right (parts ds ys) ≡ true → part ds (form y.term) ≡ Some (wrong_part l) → fault k x.place ≡ fault l y.place
one_wrong_place cs xs x k ys y l ds nx rx ix ny ry iy = at (which_first cs xs x ys y nx ny)
  where
    at : Placed xs x ys y → fault k x.place ≡ fault l y.place
    at (same_clause_place i j) =
        let both : Some (wrong_part k) ≡ Some (wrong_part l) = sym ix ∙ ap (λ x. part ds (form x.term)) j ∙ iy in
        let kinds : k ≡ l = cc both in
        ap (λ x. fault k x.place) j ∙ ap (λ k. fault k y.place) kinds
    at (before_it more i) = absurd (never_right ds xs more x k ix (sym (ap (λ zs. list_all is_right (parts ds zs)) i) ∙ ry))
    at (behind_it more i) = absurd (never_right ds ys more y l iy (sym (ap (λ zs. list_all is_right (parts ds zs)) i) ∙ rx))

-- clauses go wrong first at one place, and in one way
pub rules_go_wrong_once : (cs : List ReadClause) (f g : ReadFault) → RulesGoWrong cs f → RulesGoWrong cs g → f ≡ g
rules_go_wrong_once cs f g (bad_declaration {before = xs} {c = x} {ds = ds} t nx dx ix none) (bad_declaration {before = ys} {c = y} {ds = es} u ny dy iy
    none') =
    ap (λ x. fault BadDeclaration x.place) (one_bad_place cs xs x ds ys y es (none_bad xs x t ix none) nx dx (none_bad ys y u iy none') ny dy)
rules_go_wrong_once cs f g (bad_declaration {before = xs} {c = x} {ds = ds} t nx dx ix none) (declared_twice {before = ys} {c = y} {ds = es} u d ny dy iy
    declares there) =
    let same = one_bad_place cs xs x ds ys y es (none_bad xs x t ix none) nx dx (twice_bad ys y es u d dy iy declares there) ny dy in
    absurd (none d (subst (λ t. Declares t d) (sym (same_directive x y t u same ix iy)) declares))
rules_go_wrong_once cs f g (bad_declaration {before = xs} {c = x} {ds = ds} t nx dx ix none) (wrong_clause {before = ys} {c = y} {ds = es} k dy ny ry iy) =
    absurd (never_among cs xs x es (none_bad xs x t ix none) nx dy)
rules_go_wrong_once cs f g (declared_twice {before = xs} {c = x} {ds = ds} t d nx dx ix declares there) (bad_declaration {before = ys} {c = y} {ds = es} u ny dy
    iy none) =
    let same = one_bad_place cs xs x ds ys y es (twice_bad xs x ds t d dx ix declares there) nx dx (none_bad ys y u iy none) ny dy in
    absurd (none d (subst (λ t. Declares t d) (same_directive x y t u same ix iy) declares))
rules_go_wrong_once cs f g (declared_twice {before = xs} {c = x} {ds = ds} t d nx dx ix declares there) (declared_twice {before = ys} {c = y} {ds = es} u e ny
    dy iy declares' there') =
    ap (λ x. fault TwiceDeclared x.place) (one_bad_place cs xs x ds ys y es (twice_bad xs x ds t d dx ix declares there) nx dx
    (twice_bad ys y es u e dy iy declares' there') ny dy)
rules_go_wrong_once cs f g (declared_twice {before = xs} {c = x} {ds = ds} t d nx dx ix declares there) (wrong_clause {before = ys} {c = y} {ds = es} k dy ny
    ry iy) =
    absurd (never_among cs xs x es (twice_bad xs x ds t d dx ix declares there) nx dy)
rules_go_wrong_once cs f g (wrong_clause {before = xs} {c = x} {ds = ds} k dx nx rx ix) (bad_declaration {before = ys} {c = y} {ds = es} u ny dy iy none) =
    absurd (never_among cs ys y ds (none_bad ys y u iy none) ny dx)
rules_go_wrong_once cs f g (wrong_clause {before = xs} {c = x} {ds = ds} k dx nx rx ix) (declared_twice {before = ys} {c = y} {ds = es} u d ny dy iy declares
    there) =
    absurd (never_among cs ys y ds (twice_bad ys y es u d dy iy declares there) ny dx)
rules_go_wrong_once cs f g (wrong_clause {before = xs} {c = x} {ds = ds} k dx nx rx ix) (wrong_clause {before = ys} {c = y} {ds = es} l dy ny ry iy) =
    let same = declare_once cs es ds dy dx in
    one_wrong_place cs xs x k ys y l ds nx rx ix ny (sym (ap (λ ds. list_all is_right (parts ds ys)) same) ∙ ry)
    (sym (ap (λ ds. part ds (form y.term)) same) ∙ iy)

-- clauses that go wrong are no rules
pub rules_or_wrong : (cs : List ReadClause) (p : Program) (is : List (ℕ × Tree)) (f : ReadFault) → AreRules cs p is → RulesGoWrong cs f → ⊥
rules_or_wrong cs p is f h (bad_declaration {before = xs} {c = x} t nx dx ix none) = never_among cs xs x p.decls (none_bad xs x t ix none) nx h.declared
rules_or_wrong cs p is f h (declared_twice {before = xs} {c = x} {ds = ds} t d nx dx ix declares there) =
    never_among cs xs x p.decls (twice_bad xs x ds t d dx ix declares there) nx h.declared
rules_or_wrong cs p is f h (wrong_clause {before = xs} {c = x} {ds = ds} k dx nx rx ix) =
    let same = declare_once cs ds p.decls dx h.declared in
    never_right p.decls xs nx.after x k (sym (ap (λ ds. part ds (form x.term)) same) ∙ ix) (sym (ap (λ cs. list_all is_right (parts p.decls cs)) nx.whole)
    ∙ h.right)

-- clauses are rules of one program, with one list of items
pub one_program : (cs : List ReadClause) (p q : Program) (is js : List (ℕ × Tree)) → AreRules cs p is → AreRules cs q js → (p ≡ q) × (is ≡ js)
one_program cs p q is js h k =
    let decls = declare_once cs p.decls q.decls h.declared k.declared in
    let parts_same = ap (λ ds. parts ds cs) decls in
    let clauses : p.clauses ≡ q.clauses = h.in_program ∙ ap (filter_map clause_part) parts_same ∙ sym k.in_program in
    (λ i. record { decls = decls i; clauses = clauses i }, h.in_lists ∙ ap (filter_map item_part) parts_same ∙ sym k.in_lists)
