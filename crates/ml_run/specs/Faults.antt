-- The text of a read fault.
use Rattle.std.specs.Prelude.{ℕ, List, ◌++◌, codes}
use Rattle.ml_term.specs.Decimal.{decimal_text}
use Rattle.ml_reader.specs.declared.fault.ReadFault.{ReadFault}
use Rattle.ml_reader.specs.declared.fault.ReadKind.{ReadKind}
use Rattle.ml_reader.specs.declared.fault.ReadKind.TheVariants.{BadCharacter, OpenQuote}
use Rattle.ml_reader.specs.declared.fault.ReadKind.TheVariants.{OpenComment, BadEscape}
use Rattle.ml_reader.specs.declared.fault.ReadKind.TheVariants.{NumberTooLarge, NameTooLong}
use Rattle.ml_reader.specs.declared.fault.ReadKind.TheVariants.{LeftOutQuote, TooDeep}
use Rattle.ml_reader.specs.declared.fault.ReadKind.TheVariants.{ArityTooLarge, ClauseTooLong}
use Rattle.ml_reader.specs.declared.fault.ReadKind.TheVariants.{PriorityClash, Unexpected}
use Rattle.ml_reader.specs.declared.fault.ReadKind.TheVariants.{TooManyNodes, BadDeclaration}
use Rattle.ml_reader.specs.declared.fault.ReadKind.TheVariants.{TwiceDeclared, BadClause}
use Rattle.ml_reader.specs.declared.fault.ReadKind.TheVariants.{ItemTooLarge, BadScriptItem}

-- the name of a kind of fault
abbrev pub kind_text : ReadKind → List ℕ
kind_text BadCharacter = codes "BadCharacter"
kind_text OpenQuote = codes "OpenQuote"
kind_text OpenComment = codes "OpenComment"
kind_text BadEscape = codes "BadEscape"
kind_text NumberTooLarge = codes "NumberTooLarge"
kind_text NameTooLong = codes "NameTooLong"
kind_text LeftOutQuote = codes "LeftOutQuote"
kind_text TooDeep = codes "TooDeep"
kind_text ArityTooLarge = codes "ArityTooLarge"
kind_text ClauseTooLong = codes "ClauseTooLong"
kind_text PriorityClash = codes "PriorityClash"
kind_text Unexpected = codes "Unexpected"
kind_text TooManyNodes = codes "TooManyNodes"
kind_text BadDeclaration = codes "BadDeclaration"
kind_text TwiceDeclared = codes "TwiceDeclared"
kind_text BadClause = codes "BadClause"
kind_text ItemTooLarge = codes "ItemTooLarge"
kind_text BadScriptItem = codes "BadScriptItem"

-- `KIND at PLACE`
abbrev pub fault_text : ReadFault → List ℕ
fault_text f = kind_text f.kind ++ codes " at " ++ decimal_text f.place
