-- Layout and comments, as the scanner counts them. No public clause cites this module; the grammar
-- of `Language` says the same without a scanner.
use Rattle.std.specs.Prelude.{ℕ, zero, suc, ◌+◌, ◌==◌, ◌&&◌, List, [], ◌∷◌, Option}
use Rattle.std.specs.Prelude.{Some, None, option_map, unwrap_or, if◌then◌else◌}
use Rattle.std.specs.List.{prefix_len}
use Rattle.ml_token.specs.declared.bytes.Run.TheVariants.{Line}
use Rattle.ml_token.specs.Bytes.{is_layout, in_run, begins_with}

-- how many bytes a comment takes behind its `/*`, where `*/` closes it
abbrev pub block_comment_len : List ℕ → Option ℕ
block_comment_len [] = None
block_comment_len (b ∷ bs) =
    if b == 42 && begins_with 47 bs then Some 2 else option_map (λ n. 1 + n) (block_comment_len bs)

-- how many bytes a comment takes that begins with a `/` before these: none where it isn't `/*`, or
-- nothing closes it
abbrev pub slash_len : List ℕ → ℕ
slash_len [] = 0
slash_len (b ∷ bs) =
    if b == 42 then unwrap_or (option_map (λ n. 2 + n) (block_comment_len bs)) 0 else 0

-- how many bytes the layout or the comment takes that stands first: one byte of layout, a comment
-- from `%` to the end of the line or of the text, or one from `/*` to the next `*/`
abbrev pub piece_len : List ℕ → ℕ
piece_len [] = 0
piece_len (b ∷ bs) =
    if is_layout b then 1
    else (if b == 37 then 1 + prefix_len (in_run Line) bs
    else (if b == 47 then slash_len bs
    else 0))

-- how many bytes of layout and comments stand first, in a text whose first `skip` bytes belong to a
-- comment before it
abbrev pub gap_len : ℕ → List ℕ → ℕ
gap_len skip [] = 0
gap_len (suc k) (b ∷ bs) = 1 + gap_len k bs
gap_len zero (b ∷ bs) = elim (piece_len (b ∷ bs)) [ zero ↦ 0 | suc k ↦ 1 + gap_len k bs ]
