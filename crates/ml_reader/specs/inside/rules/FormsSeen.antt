-- What the code's forms of clauses are seen as. No public clause cites this module.
use Rattle.ml_term.specs.Seen.{seen}
use Rattle.ml_reader.specs.Forms.{Form, directive, query, rule, fact}
use Rattle.ml_reader.specs.declared.rules.form.Form as F
use Rattle.ml_reader.specs.declared.rules.form.Form.TheVariants as V

-- the form that it is
abbrev pub form_seen : F.Form → Form
form_seen (V.Directive t) = directive (seen t)
form_seen (V.Query t) = query (seen t)
form_seen (V.Rule h b) = rule (seen h) (seen b)
form_seen (V.Fact h) = fact (seen h)
