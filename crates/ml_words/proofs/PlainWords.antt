-- What clap makes of words that don't begin with a hyphen, in a command without subcommands.
use Rattle.std.specs.Prelude.{◌≡◌, ℕ, ◌==◌, Bool, true, false, not, List, [], ◌∷◌, Option, None, IsTrue, fold, is_some, map}
use Rattle.std.specs.Str.{bytes_eq}
use Rattle.std.proofs.Common.{refl, sym, ap, ap₂, ◌∙◌, true≢false}
use Rattle.clap.specs.Lexer.{long_of, short_of}
use Rattle.clap.specs.Kinds.{Kinds, or_else}
use Rattle.clap.specs.Walk.{Held, Rule, Text, Waiting, idle, option, positional, Walk, after_step, plain_word, walked, word_met}
use Rattle.clap.specs.Walk.{finished, nothing_held, settled, walk, walk_from}
use Rattle.clap.specs.Simple.{App, Shape, built, entered, label_of}
use Rattle.clap.specs.Faults.{built_fault, check_fault, defaults_fault, entered_fault, level_fault, settle_fault, step_fault, turn_fault, walk_fault, word_fault}
use Rattle.ml_words.specs.InOrder.{is_plain_name}

-- the word is no flag and no `--`
pub record IsPlain (word : Text) : Type 0 where
  pub long : long_of word ≡ None
  pub short : short_of word ≡ None
  pub dashes : bytes_eq word (45 ∷ 45 ∷ []) ≡ false

pub not_so : (b : Bool) → not b ≡ true → b ≡ false
not_so true e = absurd (true≢false (sym e))
not_so false e = refl

pub is_plain : (word : Text) → IsTrue (is_plain_name word) → IsPlain word
is_plain [] e = absurd (true≢false (sym e))
is_plain (b ∷ rest) e = let other : (b == 45) ≡ false = not_so (b == 45) e in record { long = rw other refl; short = rw other refl; dashes = rw other refl }

word_is_fine : (s : Shape) (waiting : Waiting) (word : Text) (h : Held) → IsPlain word → word_fault s [] false waiting word h ≡ []
word_is_fine s idle word h p = rw (p.dashes, p.long, p.short) refl
word_is_fine s (option id) word h p = rw (p.dashes, p.long, p.short) refl
word_is_fine s positional word h p = rw (p.dashes, p.long, p.short) refl

word_is_plain : (c : List Rule) (waiting : Waiting) (position : ℕ) (word : Text) (h : Held) → IsPlain word
    → word_met c [] false waiting position word h ≡ plain_word c waiting word h
word_is_plain c idle position word h p = rw (p.dashes, p.long, p.short) refl
word_is_plain c (option id) position word h p = rw (p.dashes, p.long, p.short) refl
word_is_plain c positional position word h p = rw (p.dashes, p.long, p.short) refl

-- where the walk stands before any `--`
abbrev pub standing : Held → Waiting → ℕ → Walk
standing h waiting position = record { held = h; waiting = waiting; position = position; is_trailing = false; stopped = None }

pub plain_fault : (s : Shape) (h : Held) (waiting : Waiting) (position : ℕ) (word : Text) → IsPlain word
    → turn_fault s [] (standing h waiting position) word
    ≡ step_fault s position (plain_word s.rules waiting word h).0 (plain_word s.rules waiting word h).1
plain_fault s h waiting position word p = rw (word_is_fine s waiting word h p, word_is_plain s.rules waiting position word h p) refl

pub plain_walked : (c : List Rule) (h : Held) (waiting : Waiting) (position : ℕ) (word : Text) → IsPlain word
    → walked c [] (standing h waiting position) word
    ≡ after_step c word (standing h waiting position) (plain_word c waiting word h).0 (plain_word c waiting word h).1
unfolding walked
plain_walked c h waiting position word p = rw (word_is_plain c waiting position word h p) refl

module _ (s : Shape) where
  -- from one state before these words the walk comes to the other before those, and nothing is wrong on the way
  pub record Leads (w : Walk) (words : List Text) (v : Walk) (rest : List Text) : Type 0 where
    pub faults : walk_fault s [] w words ≡ walk_fault s [] v rest
    pub walks : fold (walked s.rules []) w words ≡ fold (walked s.rules []) v rest

  passed : (w v : Walk) (word : Text) (rest : List Text) → turn_fault s [] w word ≡ [] → walked s.rules [] w word ≡ v
      → walk_fault s [] w (word ∷ rest) ≡ walk_fault s [] v rest
  unfolding walk_fault
  passed w v word rest none is = rw (none, is) refl

  -- a word without a fault
  pub one_word : (w v : Walk) (word : Text) (rest : List Text) → turn_fault s [] w word ≡ [] → walked s.rules [] w word ≡ v → Leads w (word ∷ rest) v rest
  one_word w v word rest none is = record { faults = passed w v word rest none is; walks = ap (λ u. fold (walked s.rules []) u rest) is }

  pub then : (w v u : Walk) (xs ys zs : List Text) → Leads w xs v ys → Leads v ys u zs → Leads w xs u zs
  then w v u xs ys zs a b = record { faults = a.faults ∙ b.faults; walks = a.walks ∙ b.walks }

  -- a word that doesn't begin with a hyphen
  pub plain_word_leads : (h : Held) (waiting : Waiting) (position : ℕ) (v : Walk) (word : Text) (rest : List Text) → IsPlain word
      → step_fault s position (plain_word s.rules waiting word h).0 (plain_word s.rules waiting word h).1 ≡ []
      → after_step s.rules word (standing h waiting position) (plain_word s.rules waiting word h).0 (plain_word s.rules waiting word h).1 ≡ v
      → Leads (standing h waiting position) (word ∷ rest) v rest
  plain_word_leads h waiting position v word rest p none is =
      one_word (standing h waiting position) v word rest (plain_fault s h waiting position word p ∙ none) (plain_walked s.rules h waiting position word p ∙ is)

  -- what may be wrong at the end of the words
  abbrev pub end_fault : Held → Kinds
  end_fault h = or_else (settle_fault s.rules s.args_override_self h)
      (or_else (defaults_fault (settled s.rules h).rows s.rules) (check_fault s (finished s.rules h) false))

  -- where the walk over all words ends, without a fault there
  pub record Taken (words : List Text) : Type 0 where
    pub end : Held
    pub waiting : Waiting
    pub position : ℕ
    pub whole : Leads (walk_from nothing_held) words (standing end waiting position) []
    pub right : end_fault end ≡ []

nothing_left : (s : Shape) (v : Walk) → walk_fault s [] v [] ≡ []
unfolding walk_fault
nothing_left s v = refl

-- all that may be wrong, by what was wrong on the walk, and where it ended
abbrev all_faults : App → Kinds → Walk → Kinds
all_faults app kinds v = or_else kinds (or_else (entered_fault app v.stopped)
    (or_else (settle_fault app.top.rules app.top.args_override_self v.held)
    (or_else (defaults_fault (settled app.top.rules v.held).rows app.top.rules)
    (check_fault app.top (finished app.top.rules v.held) (is_some (entered app v.stopped))))))

-- the faults of the words of a command without subcommands, the command word first
pub faults_of_words : (app : App) (words : List Text) → (built app).subs ≡ [] → Taken (built app).top words
    → built_fault (built app) nothing_held words ≡ []
faults_of_words app words leaf t =
    ap (λ subs. level_fault (built app).top (map label_of subs) nothing_held words
    (is_some (entered (built app) (walk (built app).top.rules (map label_of subs) nothing_held words).stopped))
    (entered_fault (built app) (walk (built app).top.rules (map label_of subs) nothing_held words).stopped)) leaf
    ∙ ap₂ (all_faults (built app)) (t.whole.faults ∙ nothing_left (built app).top (standing t.end t.waiting t.position)) t.whole.walks ∙ t.right
