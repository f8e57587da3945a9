-- Runs, gaps and quoted names of the language, as the functions on the bytes find them.
use Rattle.std.proofs.Common.{◌≡◌, ℕ, zero, suc, ◌+◌, ◌-◌, ◌≤◌, Bool, true, false, ◌&&◌, ◌||◌, ◌==◌, nat_le, List, [], ◌∷◌, ◌++◌, length, drop, refl, sym, ap}
use Rattle.std.proofs.Common.{◌∙◌, arith, subst, eqb-true, Option, Some, None, option_map, unwrap_or, append_assoc, zero-add, length-append}
use Rattle.std.specs.List.{list_all, prefix_len}
use Rattle.std.proofs.Math.Seq.{drop-append_seam, drop-append-add}
use Rattle.std.proofs.lemmas.Bool.Decides.{nat_tests}
use Rattle.ml_token.specs.declared.quoted.Part.{Part}
use Rattle.ml_token.specs.declared.quoted.Part.TheVariants.{Spelled, Last}
use Rattle.ml_token.specs.declared.quoted.Ending.{Ending}
use Rattle.ml_token.specs.declared.quoted.Ending.TheVariants.{LeftOpen}
use Rattle.ml_token.specs.declared.bytes.Run.TheVariants.{Line}
use Rattle.ml_token.specs.Bytes.{is_one_of, in_run, begins_with}
use Rattle.ml_token.specs.inside.Gap.{block_comment_len, slash_len, piece_len, gap_len}
use Rattle.ml_token.specs.Quoted.{part_of, escape_part, Inside, inside, with_byte}
use Rattle.ml_token.specs.Language.{IsRun, StopsAt, is_in_line, holds_close, IsGap, no_gap, layout, line_comment, block_comment, is_plain, Spells, nothing}
use Rattle.ml_token.specs.Language.{plain, two_quotes, escape}
use Rattle.ml_token.proofs.GapLengths.{gap_len-skip}
use Rattle.ml_token.proofs.NameBytes.{both}

-- a test on each byte of a list
abbrev pub Each : (ℕ → Type 0) → List ℕ → Type 0
Each P [] = Unit {0}
Each P (x ∷ xs) = P x × Each P xs

one_or_others : (P : ℕ → Type 0) (x b : ℕ) (others same : Bool) → (b == x) ≡ same → (same || others) ≡ true → P x
    → (others ≡ true → P b) → P b
one_or_others P x b others true is one first rest = subst P (sym (eqb-true b x is)) first
one_or_others P x b others false is one first rest = rest one

-- what holds of each of these bytes holds of one of them
pub is_one_of-each : (P : ℕ → Type 0) (bytes : List ℕ) (b : ℕ) → is_one_of bytes b ≡ true → Each P bytes → P b
is_one_of-each P [] b one each = absurd (let clash : false ≡ true = one in cc)
is_one_of-each P (x ∷ xs) b one each =
    one_or_others P x b (is_one_of xs b) (b == x) refl one each.0 (λ rest. is_one_of-each P xs b rest each.1)

stop_len : (p : ℕ → Bool) (rest : List ℕ) → StopsAt p rest → prefix_len p rest ≡ 0
stop_len p [] stops = refl
stop_len p (b ∷ bs) stops = rw stops refl

run_len_by : (p : ℕ → Bool) (run rest : List ℕ) → list_all p run ≡ true → StopsAt p rest → prefix_len p (run ++ rest) ≡ length run
run_len_by p [] rest all stops = stop_len p rest stops
run_len_by p (b ∷ bs) rest all stops =
    let first = both (p b) (list_all p bs) all in rw (first.0, run_len_by p bs rest first.1 stops) (omega arith)

-- a run is the longest that stands first
pub prefix_len-run : (p : ℕ → Bool) (run rest : List ℕ) → IsRun p run rest → prefix_len p (run ++ rest) ≡ length run
prefix_len-run p run rest is = run_len_by p run rest is.all is.longest

-- a comment closes where the text before holds no `*/`
close_here : (rest : List ℕ) → block_comment_len (42 ∷ 47 ∷ rest) ≡ Some 2
close_here rest = refl

-- neither of two tests holds
pub neither : (a b : Bool) → (a || b) ≡ false → (a ≡ false) × (b ≡ false)
neither true b e = absurd (let clash : true ≡ false = e in cc)
neither false b e = (refl, e)

begins_later : (bs rest : List ℕ) → begins_with 47 bs ≡ false → begins_with 47 (bs ++ 42 ∷ 47 ∷ rest) ≡ false
begins_later [] rest is = refl
begins_later (b ∷ bs) rest is = is

closes_by : (same : Bool) (bs rest : List ℕ) → (same && begins_with 47 bs) ≡ false → (same && begins_with 47 (bs ++ 42 ∷ 47 ∷ rest)) ≡ false
closes_by true bs rest is = begins_later bs rest is
closes_by false bs rest is = refl

closes_later : (b : ℕ) (bs rest : List ℕ) → (b == 42 && begins_with 47 bs) ≡ false → (b == 42 && begins_with 47 (bs ++ 42 ∷ 47 ∷ rest)) ≡ false
closes_later b bs rest is = closes_by (b == 42) bs rest is

pub block_comment_len-close : (text rest : List ℕ) → holds_close text ≡ false → block_comment_len (text ++ 42 ∷ 47 ∷ rest) ≡ Some (length text + 2)
block_comment_len-close [] rest none = refl
block_comment_len-close (b ∷ bs) rest none =
    let split = neither (b == 42 && begins_with 47 bs) (holds_close bs) none in
    rw (closes_later b bs rest split.0, block_comment_len-close bs rest split.1) (ap (λ (n : ℕ). Some n) (omega arith))

-- an open comment has no length
pub block_comment_len-open : (bs : List ℕ) → holds_close bs ≡ false → block_comment_len bs ≡ None
block_comment_len-open [] none = refl
block_comment_len-open (b ∷ bs) none =
    let split = neither (b == 42 && begins_with 47 bs) (holds_close bs) none in
    rw (split.0, block_comment_len-open bs split.1) refl

-- nothing stands before what begins no layout and no comment
pub gap_len-none : (bs : List ℕ) → piece_len bs ≡ 0 → gap_len 0 bs ≡ 0
gap_len-none [] stops = refl
gap_len-none (b ∷ bs) stops =
    subst (λ (n : ℕ). (let m : ℕ = elim n [ zero ↦ 0 | suc k ↦ 1 + gap_len k bs ] in m) ≡ 0) (sym stops) refl

-- a piece, and what stands before the rest behind it
gap_len-then : (b k : ℕ) (bs after : List ℕ) → piece_len (b ∷ bs) ≡ suc k → k ≤ length bs → drop k bs ≡ after
    → gap_len 0 (b ∷ bs) ≡ suc k + gap_len 0 after
gap_len-then b k bs after piece within behind =
    subst (λ (n : ℕ). (let m : ℕ = elim n [ zero ↦ 0 | suc j ↦ 1 + gap_len j bs ] in m) ≡ suc k + gap_len 0 after) (sym piece)
    (let passed : gap_len k bs ≡ k + gap_len 0 after = gap_len-skip k bs within ∙ ap (λ (xs : List ℕ). k + gap_len 0 xs) behind in omega arith)

after_piece : (piece n len sum : ℕ) → n ≡ len → piece + len ≡ sum → piece + n ≡ sum
after_piece piece n len sum is adds = omega arith

-- a gap is what stands before the rest
pub gap_len-gap : {gap rest : List ℕ} → IsGap gap rest → piece_len rest ≡ 0 → gap_len 0 (gap ++ rest) ≡ length gap
gap_len-gap {rest = rest} no_gap stops = gap_len-none rest stops
gap_len-gap {rest = rest} (layout {b = b} {gap = gap} is more) stops =
    let all : List ℕ = gap ++ rest in
    let piece : piece_len (b ∷ all) ≡ suc 0 = rw is refl in
    gap_len-then b 0 all all piece (omega arith) refl ∙ after_piece 1 (gap_len 0 all) (length gap) (suc (length gap)) (gap_len-gap more stops) (omega arith)
gap_len-gap {rest = rest} (line_comment {gap = gap} text is more) stops =
    let all : List ℕ = (text ++ gap) ++ rest in
    let regrouped : all ≡ text ++ (gap ++ rest) = append_assoc text gap rest in
    let line : prefix_len (in_run Line) all ≡ length text =
    ap (λ (xs : List ℕ). prefix_len (in_run Line) xs) regrouped ∙ prefix_len-run is_in_line text (gap ++ rest) is in
    let piece : piece_len (37 ∷ all) ≡ suc (length text) = omega (arith, line) in
    let within : length text ≤ length all = omega (arith, ap length regrouped, length-append text (gap ++ rest)) in
    let left : drop (length text) all ≡ gap ++ rest = ap (λ (xs : List ℕ). drop (length text) xs) regrouped ∙ drop-append_seam text (gap ++ rest) in
    gap_len-then 37 (length text) all (gap ++ rest) piece within left
    ∙ after_piece (suc (length text)) (gap_len 0 (gap ++ rest)) (length gap) (suc (length (text ++ gap))) (gap_len-gap more stops)
    (omega (arith, length-append text gap))
gap_len-gap {rest = rest} (block_comment {gap = gap} text is more) stops =
    let all : List ℕ = (text ++ 42 ∷ 47 ∷ gap) ++ rest in
    let regrouped : all ≡ text ++ 42 ∷ 47 ∷ (gap ++ rest) = append_assoc text (42 ∷ 47 ∷ gap) rest in
    let closed : block_comment_len all ≡ Some (length text + 2) =
    ap (λ (xs : List ℕ). block_comment_len xs) regrouped ∙ block_comment_len-close text (gap ++ rest) is in
    let slashed : slash_len (42 ∷ all) ≡ 2 + (length text + 2) = ap (λ (o : Option ℕ). unwrap_or (option_map (λ (n : ℕ). 2 + n) o) 0) closed in
    let piece : piece_len (47 ∷ 42 ∷ all) ≡ suc (suc (length text + 2)) = omega (arith, slashed) in
    let size : length all ≡ length text + length (42 ∷ 47 ∷ (gap ++ rest)) = ap length regrouped ∙ length-append text (42 ∷ 47 ∷ (gap ++ rest)) in
    let within : suc (length text + 2) ≤ length (42 ∷ all) = omega (arith, size) in
    let left : drop (suc (length text + 2)) (42 ∷ all) ≡ gap ++ rest =
    ap (λ (xs : List ℕ). drop (length text + 2) xs) regrouped ∙ drop-append-add text (42 ∷ 47 ∷ (gap ++ rest)) 2 in
    gap_len-then 47 (suc (length text + 2)) (42 ∷ all) (gap ++ rest) piece within left
    ∙ after_piece (suc (suc (length text + 2))) (gap_len 0 (gap ++ rest)) (length gap) (suc (suc (length (text ++ 42 ∷ 47 ∷ gap)))) (gap_len-gap more stops)
    (omega (arith, length-append text (42 ∷ 47 ∷ gap)))

-- quoted names
inside-skip : (k : ℕ) (bs : List ℕ) → inside k bs ≡ inside 0 (drop k bs)
inside-skip zero bs = refl
inside-skip (suc k) [] = refl
inside-skip (suc k) (b ∷ bs) = inside-skip k bs

pub inside-spelled : (b : ℕ) (bs : List ℕ) (v k : ℕ) → part_of (b ∷ bs) ≡ Spelled v (suc k) → inside 0 (b ∷ bs) ≡ with_byte v (suc k) (inside 0 (drop k bs))
inside-spelled b bs v k is =
    subst (λ (p : Part). (let i : Inside = elim p [
      | Spelled u n ↦ with_byte u n (inside (n - 1) bs)
      | Last ending ↦ record { name = []; width = 0; ending = ending }
    ] in i) ≡ with_byte v (suc k) (inside 0 (drop k bs))) (sym is)
    (let less : suc k - 1 ≡ k = omega arith in
    ap (λ (q : Inside). with_byte v (suc k) q) (ap (λ (n : ℕ). inside n bs) less ∙ inside-skip k bs))

pub inside-last : (bs : List ℕ) (e : Ending) → part_of bs ≡ Last e → inside 0 bs ≡ record { name = []; width = 0; ending = e }
inside-last [] e is = let same : LeftOpen ≡ e = cc in ap (λ (x : Ending). let q : Inside = record { name = []; width = 0; ending = x } in q) same
inside-last (b ∷ bs) e is =
    subst (λ (p : Part). (let i : Inside = elim p [
      | Spelled u n ↦ with_byte u n (inside (n - 1) bs)
      | Last ending ↦ record { name = []; width = 0; ending = ending }
    ] in i) ≡ record { name = []; width = 0; ending = e }) (sym is) refl

-- what stands inside behind text that spells a name
abbrev pub behind : List ℕ → ℕ → Inside → Inside
behind name len q = record { name = name ++ q.name; width = len + q.width; ending = q.ending }

part_of-plain : (b : ℕ) (bs : List ℕ) → is_plain b ≡ true → part_of (b ∷ bs) ≡ Spelled b 1
part_of-plain b bs is =
    let quote : (b == 39) ≡ false = grind (arith, nat_tests) in
    let backslash : (b == 92) ≡ false = grind (arith, nat_tests) in
    let feed : (b == 10) ≡ false = grind (arith, nat_tests) in
    let prints : (nat_le 32 b && nat_le b 126) ≡ true = grind (arith, nat_tests) in
    rw (quote, backslash, feed, prints) refl

spelled_behind : (v k : ℕ) (name : List ℕ) (len sum : ℕ) (q rest : Inside) → k + len ≡ sum → q ≡ behind name len rest
    → with_byte v k q ≡ behind (v ∷ name) sum rest
spelled_behind v k name len sum q rest adds is =
    let width : k + (len + rest.width) ≡ sum + rest.width = omega arith in
    ap (λ (x : Inside). with_byte v k x) is
    ∙ ap (λ (w : ℕ). let x : Inside = record { name = v ∷ (name ++ rest.name); width = w; ending = rest.ending } in x) width

pub inside-spells : {text name : List ℕ} → Spells text name → (rest : List ℕ) → inside 0 (text ++ rest) ≡ behind name (length text) (inside 0 rest)
inside-spells nothing rest = ap (λ (w : ℕ). let q : Inside = record { name = (inside 0 rest).name; width = w; ending = (inside 0 rest).ending } in q)
    (sym (zero-add (inside 0 rest).width))
inside-spells (plain {b = b} {text = text} {name = name} is more) rest =
    inside-spelled b (text ++ rest) b 0 (part_of-plain b (text ++ rest) is)
    ∙ spelled_behind b 1 name (length text) (suc (length text)) (inside 0 (text ++ rest)) (inside 0 rest) (omega arith) (inside-spells more rest)
inside-spells (two_quotes {text = text} {name = name} more) rest =
    inside-spelled 39 (39 ∷ (text ++ rest)) 39 1 refl ∙ spelled_behind 39 2 name (length text) (suc (suc (length text))) (inside 0 (text ++ rest))
    (inside 0 rest) (omega arith) (inside-spells more rest)
inside-spells (escape {b = b} {v = v} {text = text} {name = name} is more) rest =
    inside-spelled 92 (b ∷ (text ++ rest)) v 1 (ap escape_part is) ∙ spelled_behind v 2 name (length text) (suc (suc (length text))) (inside 0 (text ++ rest))
    (inside 0 rest) (omega arith) (inside-spells more rest)
