use Rattle.ml_term.proofs.Decimals.{decimal_is_text, signed_decimal_is_text}
use Rattle.ml_term.proofs.decimal_laws.std_writes_decimal_texts.Goals as goal

pub returns-clause-unsigned : goal.returns-clause-unsigned
returns-clause-unsigned c = decimal_is_text

pub returns-clause-signed : goal.returns-clause-signed
returns-clause-signed c = signed_decimal_is_text
