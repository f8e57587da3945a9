use Rattle.std.proofs.Common.{ap, sym, ◌∙◌, ◌&&◌, length, arith}
use Rattle.std.specs.List.{list_all}
use Rattle.std.proofs.lemmas.Bool.{le-leb}
use Rattle.ml_term.specs.Names.{is_name_byte}
use Rattle.ml_term.proofs.name.is_name.Goals as goal

pub returns-then-bytes-le-MAX_NAME_BYTES : goal.returns-then-bytes-le-MAX_NAME_BYTES
returns-then-bytes-le-MAX_NAME_BYTES c =
    c.are_name_bytes.ensures ∙ sym (ap (λ b. b && list_all is_name_byte c.args.bytes.now) (le-leb (length c.args.bytes.now) 255 (omega arith)))
