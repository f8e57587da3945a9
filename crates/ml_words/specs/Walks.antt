-- The walk that finds the places of names: over the words behind the command word, from the left.
-- It is the same for each command, and knows nothing of which options a command has.
use Rattle.std.specs.Prelude.{ℕ, ◌+◌, Bool, List, [], ◌∷◌, ◌++◌, Option, Some, None}
use Rattle.std.specs.Prelude.{if◌then◌else◌, eqb, codes}
use Rattle.std.specs.List.{starts_with}
use Rattle.std.specs.Str.{bytes_eq}

-- a name: the part of the word at this place, from this byte on
pub record Name : Type 0 where
  pub word : ℕ
  pub from : ℕ

-- how a word looks: `--image` or `--save`, `--image=NAME` or `--save=NAME`, `--`, or any other
pub data Look : Type 0 where
  image_option : Look
  save_option : Look
  image_and_name : Look
  save_and_name : Look
  two_dashes : Look
  other_look : Look

-- the word begins with this
abbrev pub begins : List ℕ → List ℕ → Bool
begins word first = starts_with eqb word first

-- how a word looks
abbrev pub look_of : List ℕ → Look
look_of word =
    if bytes_eq word (codes "--image") then image_option
    else (if bytes_eq word (codes "--save") then save_option
    else (if begins word (codes "--image=") then image_and_name
    else (if begins word (codes "--save=") then save_and_name
    else (if bytes_eq word (codes "--") then two_dashes
    else other_look))))

-- the names that an option got: none, one, or more than one
pub data Given : Type 0 where
  never : Given
  once : Name → Given
  again : Given

-- one more name of an option
abbrev pub one_more : Name → Given → Given
one_more name never = once name
one_more name given = again

-- what the next word is: of any look, the name of an option, or a positional name in any case
pub data Next : Type 0 where
  any_word : Next
  name_of_image : Next
  name_of_save : Next
  only_names : Next

-- where the walk stands between two words, the places of the positional names in order
pub record Walk : Type 0 where
  pub next : Next
  pub image : Given
  pub save : Given
  pub names : List ℕ

-- nothing was looked at
abbrev pub walk_start : Walk
walk_start = record { next = any_word; image = never; save = never; names = [] }

-- an option's name at this place, from this byte on
abbrev pub image_at : ℕ → ℕ → Walk → Walk
image_at place from w = record w {
  next = any_word;
  image = one_more (record { word = place; from = from }) w.image;
}

-- the same of the other option
abbrev pub save_at : ℕ → ℕ → Walk → Walk
save_at place from w = record w {
  next = any_word;
  save = one_more (record { word = place; from = from }) w.save;
}

-- a positional name
abbrev pub name_at : ℕ → Walk → Walk
name_at place w = record w { names = w.names ++ place ∷ [] }

-- behind a word of this look, where no option waits for its name and no `--` was passed over
abbrev pub behind_look : Look → ℕ → Walk → Walk
behind_look image_option place w = record w { next = name_of_image }
behind_look save_option place w = record w { next = name_of_save }
behind_look image_and_name place w = image_at place 8 w
behind_look save_and_name place w = save_at place 7 w
behind_look two_dashes place w = record w { next = only_names }
behind_look other_look place w = name_at place w

-- behind this word, by what it is
abbrev pub behind_next : Next → ℕ → List ℕ → Walk → Walk
behind_next any_word place word w = behind_look (look_of word) place w
behind_next name_of_image place word w = image_at place 0 w
behind_next name_of_save place word w = save_at place 0 w
behind_next only_names place word w = name_at place w

-- behind this word, which stands at this place
abbrev pub behind_word : ℕ → List ℕ → Walk → Walk
behind_word place word w = behind_next w.next place word w

-- behind these words, the first of which stands at this place
abbrev pub behind_words : ℕ → List (List ℕ) → Walk → Walk
behind_words place [] w = w
behind_words place (word ∷ rest) w = behind_words (place + 1) rest (behind_word place word w)

-- the whole walk over the words behind the command word, whose own place is 0
abbrev pub walk_over : List (List ℕ) → Walk
walk_over words = behind_words 1 words walk_start
