-- Where keys part from one of them, and one step of the rule from there.
use Rattle.std.proofs.Common.{◌≡◌, ℕ, ◌+◌, ◌*◌, ◌<◌, ◌≤◌, Bool, true, false, cond, List, [], ◌∷◌, ◌++◌, length, get_or, take, drop, refl, sym, ap, ◌∙◌, subst}
use Rattle.std.proofs.Common.{arith, append_assoc}
use mathlib.Core.Bool.{beq}
use Rattle.std.specs.List.{All}
use Rattle.std.proofs.lemmas.Bool.{false_from_ne_true, false≢true, le-leb}
use Rattle.std.proofs.lemmas.List.{take-take, take-append-drop, length-take-le, get_or-take, take_more, get_or_push, length_push}
use Rattle.std.proofs.lemmas.List.Filters.{length-filter_more}
use Rattle.ml_bits.specs.BitList.{Begins, IsCommonLength}
use Rattle.ml_bits.proofs.OrderLaws.{begins_rest, begins_shorter}
use Rattle.ml_term.specs.Patterns.{begins}
use Rattle.ml_key.proofs.BitBeginnings.{begun, begins_so}
use Rattle.ml_split.specs.Splitting.{count_under, half, fuller_half, IsSplit, AreApart}
use Rattle.ml_split.proofs.KeyCounts.{begins_front, begins_within, count_longer, halves_whole, fuller_half_most, keys_longer, all_under}
use Rattle.ml_split.proofs.SplitWalk.{goes_there, count_within}

-- ---- one key

long : (n : ℕ) (guide : List Bool) → n ≤ length guide → length (take n guide) ≡ n
long n guide h = length-take-le n guide h

-- a key begins with as many bits of another one as they have in common
pub common_begins : (guide key : List Bool) (c n : ℕ) → IsCommonLength guide key c → n ≤ c → begins (take n guide) key ≡ true
common_begins guide key c n h l =
    let same : take n guide ≡ take n key = sym (take-take n c guide l) ∙ ap (take n) h.same ∙ take-take n c key l in
    begins_so (take n guide) key (ap (λ k. take k key) (long n guide (omega (arith, h.within_first))) ∙ sym same)

-- and with no more
pub common_ends : (guide key : List Bool) (c n : ℕ) → IsCommonLength guide key c → c < n → n ≤ length guide → begins (take n guide) key ≡ false
common_ends guide key c n h l m =
    false_from_ne_true (begins (take n guide) key) (λ t.
    let same : take n key ≡ take n guide = ap (λ k. take k key) (sym (long n guide m)) ∙ begun (take n guide) key t in
    let there : c < length key = omega (arith, begins_within (take n guide) key t, long n guide m) in
    h.apart (omega arith) there (sym (get_or-take n guide c false l) ∙ ap (λ zs. get_or zs c false) (sym same) ∙ get_or-take n key c false l))

length_half : (n : ℕ) (guide : List Bool) (bit : Bool) → n ≤ length guide → length (half (take n guide) bit) ≡ n + 1
length_half n guide bit h = length_push (take n guide) bit ∙ ap (λ k. k + 1) (long n guide h)

-- what begins with a half, and what doesn't
pub half_taken : (guide key : List Bool) (n : ℕ) (bit : Bool) → n ≤ length guide → begins (half (take n guide) bit) key ≡ true →
    take (n + 1) key ≡ half (take n guide) bit
half_taken guide key n bit h t = ap (λ k. take k key) (sym (length_half n guide bit h)) ∙ begun (half (take n guide) bit) key t

pub half_within : (guide key : List Bool) (n : ℕ) (bit : Bool) → n ≤ length guide → begins (half (take n guide) bit) key ≡ true → n + 1 ≤ length key
half_within guide key n bit h t = omega (arith, length_half n guide bit h, begins_within (half (take n guide) bit) key t)

pub in_half : (guide key : List Bool) (c n : ℕ) (bit : Bool) → IsCommonLength guide key c → n ≤ c → n < length key → get_or key n false ≡ bit →
    begins (half (take n guide) bit) key ≡ true
in_half guide key c n bit h l m e =
    let within : n ≤ length guide = omega (arith, h.within_first) in
    let same : take n key ≡ take n guide = ap (λ k. take k key) (sym (long n guide within)) ∙ begun (take n guide) key (common_begins guide key c n h l) in
    let more : take (n + 1) key ≡ take n key ++ get_or key n false ∷ [] = take_more key n false m in
    begins_so (half (take n guide) bit) key (ap (λ k. take k key) (length_half n guide bit within) ∙ more ∙ ap (λ b. take n key ++ b ∷ []) e
    ∙ ap (λ zs. zs ++ bit ∷ []) same)

pub not_in_half : (guide key : List Bool) (n : ℕ) (bit : Bool) → n ≤ length guide → (begins (half (take n guide) bit) key ≡ true → ⊥) →
    begins (half (take n guide) bit) key ≡ false
not_in_half guide key n bit h fails = false_from_ne_true (begins (half (take n guide) bit) key) fails

pub other_front : (guide key : List Bool) (c n : ℕ) (bit : Bool) → IsCommonLength guide key c → c < n → n ≤ length guide →
    begins (half (take n guide) bit) key ≡ false
other_front guide key c n bit h l m =
    not_in_half guide key n bit m (λ t. false≢true (sym (common_ends guide key c n h l m) ∙ begins_front (take n guide) (bit ∷ []) key t))

pub key_ended : (guide key : List Bool) (n : ℕ) (bit : Bool) → n ≤ length guide → length key ≤ n → begins (half (take n guide) bit) key ≡ false
key_ended guide key n bit h l = not_in_half guide key n bit h (λ t. omega (arith, half_within guide key n bit h t))

pub other_bit : (guide key : List Bool) (n : ℕ) (bit : Bool) → n ≤ length guide → (get_or key n false ≡ bit → ⊥) → begins (half (take n guide) bit) key ≡ false
other_bit guide key n bit h fails =
    not_in_half guide key n bit h (λ t.
    fails (sym (get_or-take (n + 1) key n false (omega arith)) ∙ ap (λ zs. get_or zs n false) (half_taken guide key n bit h t)
    ∙ get_or_push (take n guide) bit false n (long n guide h)))

decided : (b bit t : Bool) → (b ≡ bit → t ≡ true) → ((b ≡ bit → ⊥) → t ≡ false) → beq b bit ≡ t
decided true true t h k = sym (h refl)
decided true false t h k = sym (k (λ e. false≢true (sym e)))
decided false true t h k = sym (k (λ e. false≢true e))
decided false false t h k = sym (h refl)

-- the bit at the end of a half decides
pub bit_decides : (guide key : List Bool) (c n : ℕ) (b bit : Bool) → IsCommonLength guide key c → n ≤ c → n < length key → b ≡ get_or key n false
    → beq b bit ≡ begins (half (take n guide) bit) key
bit_decides guide key c n b bit h l m e =
    decided b bit (begins (half (take n guide) bit) key) (λ s. in_half guide key c n bit h l m (sym e ∙ s))
    (λ d. other_bit guide key n bit (omega (arith, h.within_first)) (λ s. d (e ∙ s)))

-- ---- counts of first keys

pub count_more : (a : List Bool) (keys : List (List Bool)) (i : ℕ) → i < length keys
    → count_under a (take (i + 1) keys) ≡ count_under a (take i keys) + cond (begins a (get_or keys i [])) 1 0
count_more a keys i l = length-filter_more (begins a) keys i [] l

pub count_yes : (a : List Bool) (keys : List (List Bool)) (i : ℕ) → i < length keys → begins a (get_or keys i []) ≡ true
    → count_under a (take (i + 1) keys) ≡ count_under a (take i keys) + 1
count_yes a keys i l t = count_more a keys i l ∙ ap (λ b. count_under a (take i keys) + cond b 1 0) t

pub count_no : (a : List Bool) (keys : List (List Bool)) (i : ℕ) → i < length keys → begins a (get_or keys i []) ≡ false
    → count_under a (take (i + 1) keys) ≡ count_under a (take i keys)
count_no a keys i l f = let e = count_more a keys i l in let g = ap (λ b. count_under a (take i keys) + cond b 1 0) f in omega (arith, e, g)

-- more keys begin with fewer bits of the guide
pub count_shorter : (m n : ℕ) (guide : List Bool) (keys : List (List Bool)) → m ≤ n → count_under (take n guide) keys ≤ count_under (take m guide) keys
count_shorter m n guide keys l =
    let parts : take m guide ++ drop m (take n guide) ≡ take n guide =
    ap (λ zs. zs ++ drop m (take n guide)) (sym (take-take m n guide l)) ∙ take-append-drop m (take n guide) in
    subst (λ a. count_under a keys ≤ count_under (take m guide) keys) parts (count_longer (take m guide) (drop m (take n guide)) keys)

-- as many bits of the guide as some of its first bits lead to: no key has left that began with these
pub record IsFork (guide : List Bool) (keys : List (List Bool)) (bits fork : ℕ) : Type 0 where
  pub from : bits ≤ fork
  pub within : fork ≤ length guide
  pub same : count_under (take fork guide) keys ≡ count_under (take bits guide) keys

pub fork_first : (guide : List Bool) (keys : List (List Bool)) (bits : ℕ) → bits ≤ length guide → IsFork guide (take 0 keys) bits (length guide)
fork_first guide keys bits h = record { from = h; within = omega arith; same = refl }

-- the next key leaves earlier
pub fork_nearer : (guide : List Bool) (keys : List (List Bool)) (i bits fork c : ℕ) → i < length keys → IsFork guide (take i keys) bits fork
    → IsCommonLength guide (get_or keys i []) c → bits ≤ c → c < fork → IsFork guide (take (i + 1) keys) bits c
fork_nearer guide keys i bits fork c l f h b m =
    let lower = count_shorter c fork guide (take i keys) (omega arith) in
    let upper = count_shorter bits c guide (take i keys) b in
    let first = count_yes (take c guide) keys i l (common_begins guide (get_or keys i []) c c h (omega arith)) in
    let second = count_yes (take bits guide) keys i l (common_begins guide (get_or keys i []) c bits h b) in
    record { from = b; within = h.within_first; same = omega (arith, f.same, lower, upper, first, second) }

-- the next key begins with all of these bits
pub fork_further : (guide : List Bool) (keys : List (List Bool)) (i bits fork c : ℕ) → i < length keys → IsFork guide (take i keys) bits fork
    → IsCommonLength guide (get_or keys i []) c → fork ≤ c → IsFork guide (take (i + 1) keys) bits fork
fork_further guide keys i bits fork c l f h m =
    let first = count_yes (take fork guide) keys i l (common_begins guide (get_or keys i []) c fork h m) in
    let second = count_yes (take bits guide) keys i l (common_begins guide (get_or keys i []) c bits h (omega (arith, f.from))) in
    record { from = f.from; within = f.within; same = omega (arith, f.same, first, second) }

-- the next key isn't one of these
pub fork_aside : (guide : List Bool) (keys : List (List Bool)) (i bits fork c : ℕ) → i < length keys → IsFork guide (take i keys) bits fork
    → IsCommonLength guide (get_or keys i []) c → c < bits → IsFork guide (take (i + 1) keys) bits fork
fork_aside guide keys i bits fork c l f h m =
    let first = count_no (take fork guide) keys i l (common_ends guide (get_or keys i []) c fork h (omega (arith, f.from)) f.within) in
    let second = count_no (take bits guide) keys i l (common_ends guide (get_or keys i []) c bits h m (omega (arith, f.from, f.within))) in
    record { from = f.from; within = f.within; same = omega (arith, f.same, first, second) }

-- ---- one step of the rule

-- so many first bits of the key at a place begin more than two thirds of the keys
pub record IsOnTheWay (keys : List (List Bool)) (prefix : List Bool) (place bits : ℕ) : Type 0 where
  pub inside : place < length keys
  pub from : length prefix ≤ bits
  pub within : bits ≤ length (get_or keys place [])
  pub heavy : 2 * length keys < 3 * count_under (take bits (get_or keys place [])) keys

pub way_begins : (keys : List (List Bool)) (prefix : List Bool) → 1 < length keys → All (Begins prefix) keys → IsOnTheWay keys prefix 0 (length prefix)
way_begins keys prefix more all =
    let begin : Begins prefix (get_or keys 0 []) = all 0 [] (omega arith) in
    record {
      inside = omega arith;
      from = omega arith;
      within = begins_within prefix (get_or keys 0 []) (begins_so prefix (get_or keys 0 []) begin);
      heavy = subst (λ a. 2 * length keys < 3 * count_under a keys) (sym begin) (omega (arith, all_under keys prefix all));
    }

-- what is known where the keys part that begin with these bits
pub record Parts (keys : List (List Bool)) (guide : List Bool) (fork : ℕ) : Type 0 where
  pub shorter : fork < length guide
  pub heavy : 2 * length keys < 3 * count_under (take fork guide) keys
  pub some : 0 < count_under (half (take fork guide) (fuller_half (take fork guide) keys)) keys

pub keys_part : (keys : List (List Bool)) (prefix : List Bool) (place bits fork : ℕ) → 1 < length keys → AreApart keys → IsOnTheWay keys prefix place bits
    → IsFork (get_or keys place []) keys bits fork → Parts keys (get_or keys place []) fork
keys_part keys prefix place bits fork more apart way f =
    let guide : List Bool = get_or keys place [] in
    let front : List Bool = take fork guide in
    let heavy : 2 * length keys < 3 * count_under front keys = omega (arith, way.heavy, f.same) in
    let several : 1 < count_under front keys = omega arith in
    let itself : begins front guide ≡ true = begins_so front guide (ap (λ k. take k guide) (long fork guide f.within)) in
    let longer : length front < length guide = keys_longer keys apart front several place way.inside itself in
    let whole = halves_whole keys apart front several in
    let zeros = fuller_half_most front keys false in
    let ones = fuller_half_most front keys true in
    record {
      shorter = omega (arith, longer, long fork guide f.within);
      heavy = heavy;
      some = omega (arith, whole, zeros, ones, several);
    }

-- the rule stops there
pub stops_there : (keys : List (List Bool)) (prefix : List Bool) (place bits fork next : ℕ) → All (Begins prefix) keys → IsOnTheWay keys prefix place bits
    → IsFork (get_or keys place []) keys bits fork → Parts keys (get_or keys place []) fork
    → begins (half (take fork (get_or keys place [])) (fuller_half (take fork (get_or keys place [])) keys)) (get_or keys next []) ≡ true
    → 3 * count_under (half (take fork (get_or keys place [])) (fuller_half (take fork (get_or keys place [])) keys)) keys ≤ 2 * length keys
    → IsSplit keys prefix (take (fork + 1) (get_or keys next []))
stops_there keys prefix place bits fork next all way f parts there light =
    let guide : List Bool = get_or keys place [] in
    let front : List Bool = take fork guide in
    let bit : Bool = fuller_half front keys in
    let itself : Begins front guide = ap (λ k. take k guide) (long fork guide f.within) in
    let begin : Begins prefix front = begins_shorter prefix front guide (all place [] way.inside) itself
    (omega (arith, way.from, f.from, long fork guide f.within)) in
    let rest : List Bool = drop (length prefix) front in
    let apart : front ≡ prefix ++ rest = begins_rest prefix front begin in
    record {
      bits = rest ++ bit ∷ [];
      new_is = half_taken guide (get_or keys next []) fork bit f.within there ∙ ap (λ zs. zs ++ bit ∷ []) apart ∙ append_assoc prefix rest (bit ∷ []);
      goes = goes_there keys prefix rest bit front apart parts.heavy refl (le-leb (3 * count_under (half front bit) keys) (2 * length keys) light);
    }

-- or goes on
pub goes_further : (keys : List (List Bool)) (prefix : List Bool) (place bits fork next : ℕ) → IsOnTheWay keys prefix place bits
    → IsFork (get_or keys place []) keys bits fork
    → next < length keys
    → begins (half (take fork (get_or keys place [])) (fuller_half (take fork (get_or keys place [])) keys)) (get_or keys next []) ≡ true
    → 2 * length keys < 3 * count_under (half (take fork (get_or keys place [])) (fuller_half (take fork (get_or keys place [])) keys)) keys
    → IsOnTheWay keys prefix next (fork + 1)
goes_further keys prefix place bits fork next way f inside there heavy =
    let guide : List Bool = get_or keys place [] in
    let front : List Bool = take fork guide in
    let bit : Bool = fuller_half front keys in
    record {
      inside = inside;
      from = omega (arith, way.from, f.from);
      within = half_within guide (get_or keys next []) fork bit f.within there;
      heavy = subst (λ a. 2 * length keys < 3 * count_under a keys) (sym (half_taken guide (get_or keys next []) fork bit f.within there)) heavy;
    }

-- what one step of the code leads to, which looks at the key at a place and finds `count` keys in the fuller half, among them the next one
pub record Step (keys : List (List Bool)) (prefix : List Bool) (place fork next count : ℕ) : Type 0 where
  pub shorter : fork < length (get_or keys place [])
  pub few : count ≤ length keys
  pub inside : next < length keys
  pub within : fork + 1 ≤ length (get_or keys next [])
  pub stops : 3 * count ≤ 2 * length keys → IsSplit keys prefix (take (fork + 1) (get_or keys next []))
  pub further : 2 * length keys < 3 * count → IsOnTheWay keys prefix next (fork + 1)

step_from : (keys : List (List Bool)) (prefix : List Bool) (place bits fork next count : ℕ) → 1 < length keys → AreApart keys → All (Begins prefix) keys
    → IsOnTheWay keys prefix place bits → IsFork (get_or keys place []) keys bits fork
    → count ≡ count_under (half (take fork (get_or keys place [])) (fuller_half (take fork (get_or keys place [])) keys)) keys
    → (0 < count → next < length keys)
    → (0 < count → begins (half (take fork (get_or keys place [])) (fuller_half (take fork (get_or keys place [])) keys)) (get_or keys next []) ≡ true)
    → Step keys prefix place fork next count
step_from keys prefix place bits fork next count more apart all way f e inside there =
    let guide : List Bool = get_or keys place [] in
    let front : List Bool = take fork guide in
    let chosen : List Bool = half front (fuller_half front keys) in
    let parts : Parts keys guide fork = keys_part keys prefix place bits fork more apart way f in
    let some : 0 < count = omega (arith, e, parts.some) in
    record {
      shorter = parts.shorter;
      few = omega (arith, e, count_within chosen keys);
      inside = inside some;
      within = half_within guide (get_or keys next []) fork (fuller_half front keys) f.within (there some);
      stops = λ light. stops_there keys prefix place bits fork next all way f parts (there some) (omega (arith, e, light));
      further = λ heavy. goes_further keys prefix place bits fork next way f (inside some) (there some) (omega (arith, e, heavy));
    }

-- the same where the key was read twice
pub stepped : (keys : List (List Bool)) (prefix : List Bool) (place bits fork next count : ℕ) (first second : List Bool) → first ≡ get_or keys place [] →
    second ≡ get_or keys place []
    → 1 < length keys → AreApart keys → All (Begins prefix) keys → IsOnTheWay keys prefix place bits
    → bits ≤ fork → fork ≤ length first → count_under (take fork first) keys ≡ count_under (take bits first) keys
    → count ≡ count_under (half (take fork second) (fuller_half (take fork second) keys)) keys
    → (0 < count → next < length keys)
    → (0 < count → begins (half (take fork second) (fuller_half (take fork second) keys)) (get_or keys next []) ≡ true)
    → Step keys prefix place fork next count
stepped keys prefix place bits fork next count first second p q more apart all way from within same e inside there =
    let at_first : IsFork first keys bits fork = record { from = from; within = within; same = same } in
    let f : IsFork (get_or keys place []) keys bits fork = subst (λ x. IsFork x keys bits fork) p at_first in
    step_from keys prefix place bits fork next count more apart all way f
    (subst (λ x. count ≡ count_under (half (take fork x) (fuller_half (take fork x) keys)) keys) q e) inside
    (subst (λ x. 0 < count → begins (half (take fork x) (fuller_half (take fork x) keys)) (get_or keys next []) ≡ true) q there)

-- a key has as many bits of the guide as the two have in common
pub common_taken : (guide key : List Bool) (c n : ℕ) → IsCommonLength guide key c → n ≤ c → take n key ≡ take n guide
common_taken guide key c n h l = sym (take-take n c key l) ∙ ap (take n) (sym h.same) ∙ take-take n c guide l
