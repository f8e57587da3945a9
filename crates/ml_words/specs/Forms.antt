-- What words ask for. Each command has a form: `clap` takes the words, the walk finds the names
-- that the command asks for, each option at most once, and the limits hold.
use Rattle.std.specs.Prelude.{ℕ, ◌&&◌, Bool, true, false, List, [], ◌∷◌, Option, Some, None, length}
use Rattle.std.specs.Prelude.{if◌then◌else◌, option_map, option_and_then, nat_le, codes}
use Rattle.std.specs.Prelude.{slice_get, is_none}
use Rattle.std.specs.Str.{all_ascii_digits, bytes_eq}
use Rattle.std.specs.Str.Parse.{digits_value}
use Rattle.clap.specs.Words.{App}
use Rattle.ml_words.specs.Limits.{max_made_digits, max_made_facts, max_scripts}
use Rattle.ml_words.specs.Walks.{Name, Given, never, once, again, Next, any_word, only_names}
use Rattle.ml_words.specs.Walks.{name_of_image, name_of_save, Walk, walk_over}
use Rattle.ml_words.specs.Commands.{sessions_app, check_app, make_app, takes}

-- What words ask for: sessions, which run in threads or not, by the place of the rules' name, the
-- names of the options, and the places of the scripts' names; a check, by the places of the names
-- of the rules and of the image; or a made run of this number.
pub data Asked : Type 0 where
  sessions : Bool → ℕ → Option Name → Option Name → List ℕ → Asked
  check : ℕ → ℕ → Asked
  make : ℕ → Asked

-- the forms of commands; threads: the sessions run in threads
pub data Form : Type 0 where
  sessions_form : Bool → Form
  check_form : Form
  make_form : Form

-- the form that a command word names
abbrev pub form_of : List ℕ → Option Form
form_of word =
    if bytes_eq word (codes "serial") then Some (sessions_form false)
    else (if bytes_eq word (codes "run") then Some (sessions_form true)
    else (if bytes_eq word (codes "check") then Some check_form
    else (if bytes_eq word (codes "make") then Some make_form
    else None)))

-- the command of a form, as `clap` knows it
abbrev pub app_of_form : Form → App
app_of_form (sessions_form threads) = sessions_app
app_of_form check_form = check_app
app_of_form make_form = make_app

-- the name of an option, if it was there at most once
abbrev pub at_most_once : Given → Option (Option Name)
at_most_once never = Some None
at_most_once (once name) = Some (Some name)
at_most_once again = None

-- whether no option waits for its name
abbrev pub is_over : Next → Bool
is_over any_word = true
is_over name_of_image = false
is_over name_of_save = false
is_over only_names = true

-- the rules, and at most so many scripts
abbrev pub sessions_of : Bool → Option Name → Option Name → List ℕ → Option Asked
sessions_of threads image save [] = None
sessions_of threads image save (rules ∷ scripts) =
    if nat_le (length scripts) max_scripts then Some (sessions threads rules image save scripts)
    else None

-- the rules and the image, and no more
abbrev pub check_of : List ℕ → Option Asked
check_of (rules ∷ image ∷ []) = Some (check rules image)
check_of names = None

-- whether the text has 1 to 5 bytes, which are decimal digits
abbrev pub is_decimal : List ℕ → Bool
is_decimal text = nat_le 1 (length text)
    && (nat_le (length text) max_made_digits && all_ascii_digits text)

-- the number, if it is neither too small nor too large
abbrev pub within_limits : ℕ → Option ℕ
within_limits n = if nat_le 1 n && nat_le n max_made_facts then Some n else None

-- the number that a text is for `make`
abbrev pub made_number : List ℕ → Option ℕ
made_number text = if is_decimal text then within_limits (digits_value 10 text) else None

-- the number alone
abbrev pub make_of : List (List ℕ) → List ℕ → Option Asked
make_of words (number ∷ []) =
    option_map make (option_and_then made_number (slice_get words number))
make_of words names = None

-- what the walk of a form's words comes to, where each option was there at most once
abbrev pub asked_with : Form → List (List ℕ) → Option Name → Option Name → Walk → Option Asked
asked_with (sessions_form threads) words image save w = sessions_of threads image save w.names
asked_with check_form words image save w =
    if is_none image && is_none save then check_of w.names else None
asked_with make_form words image save w =
    if is_none image && is_none save then make_of words w.names else None

-- what the walk of a form's words comes to
abbrev pub asked_by : Form → List (List ℕ) → Walk → Option Asked
asked_by form words w =
    if is_over w.next then option_and_then (λ image. option_and_then (λ save.
    asked_with form words image save w) (at_most_once w.save)) (at_most_once w.image)
    else None

-- what words of a form ask for, where the command takes them
abbrev pub asked_as : Form → List (List ℕ) → List (List ℕ) → Option Asked
asked_as form words rest =
    if takes (app_of_form form) words then asked_by form words (walk_over rest) else None

-- What the words ask for, the command word first: nothing where they are of no command's form.
abbrev pub command_of : List (List ℕ) → Option Asked
command_of [] = None
command_of (word ∷ rest) = option_and_then (λ form. asked_as form (word ∷ rest) rest) (form_of word)
