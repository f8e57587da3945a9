-- Words in the order of the table of commands: the options with their names, then the rules, then
-- the scripts.
use Rattle.std.specs.Prelude.{◌==◌, ℕ, ◌+◌, zero, suc, Bool, true, false, not, List, [], ◌∷◌, ◌++◌}
use Rattle.std.specs.Prelude.{Option, Some, None, codes, if◌then◌else◌}
use Rattle.ml_words.specs.Walks.{Name}

-- whether a word may be a name there: it isn't empty and doesn't begin with `-`
abbrev pub is_plain_name : List ℕ → Bool
is_plain_name [] = false
is_plain_name (b ∷ rest) = not (b == 45)

-- whether the name of an option is such a one, if it is given
abbrev pub option_is_plain : Option (List ℕ) → Bool
option_is_plain None = true
option_is_plain (Some name) = is_plain_name name

-- an option and its name before other words, if it is given
abbrev pub option_before : List ℕ → Option (List ℕ) → List (List ℕ) → List (List ℕ)
option_before option None words = words
option_before option (Some name) words = option ∷ name ∷ words

-- the word that names a command of sessions, which run in threads or not
abbrev pub sessions_word : Bool → List ℕ
sessions_word threads = if threads then codes "run" else codes "serial"

-- `serial` or `run`, the names of the options, the rules and the scripts
abbrev pub sessions_in_order : Bool → Option (List ℕ) → Option (List ℕ) → List ℕ
    → List (List ℕ) → List (List ℕ)
sessions_in_order threads image save rules scripts = sessions_word threads
    ∷ option_before (codes "--image") image (option_before (codes "--save") save (rules ∷ scripts))

-- where an option's name stands whose words begin at this place
abbrev pub name_from : ℕ → Option (List ℕ) → Option Name
name_from place None = None
name_from place (Some name) = Some (record { word = place + 1; from = 0 })

-- how many words an option takes
abbrev pub words_of_option : Option (List ℕ) → ℕ
words_of_option None = 0
words_of_option (Some name) = 2

-- the place of the rules
abbrev pub rules_place : Option (List ℕ) → Option (List ℕ) → ℕ
rules_place image save = 1 + words_of_option image + words_of_option save

-- so many places, from this one on
abbrev pub places_from : ℕ → ℕ → List ℕ
places_from place zero = []
places_from place (suc n) = place ∷ places_from (place + 1) n
