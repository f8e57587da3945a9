use Rattle.std.proofs.Common.{◌∙◌, ap, arith, rules, sym}
use Rattle.ml_outside.proofs.FileEntries.{bytes_of, get_files}
use Rattle.ml_outside.proofs.mem_shelf.MemShelfShelf.fetch.Goals as goal

pub returns-in_default-clause-content : goal.returns-in_default-clause-content
returns-in_default-clause-content c =
    rw (← c.self.view_is) (get_files c.self.inside.files c.args.name.now ∙ ap bytes_of (sym c.in_default.ensures.value))

pub returns-then-len-limit-clause-content : goal.returns-then-len-limit-clause-content
returns-then-len-limit-clause-content c =
    let found = get_files c.self.inside.files c.args.name.now ∙ ap bytes_of (sym c.in-Some.ensures.value) in
    rw (← c.self.view_is, found) (omega arith)

pub returns-clause-content : goal.returns-clause-content
returns-clause-content c =
    let found = get_files c.self.inside.files c.args.name.now ∙ ap bytes_of (sym c.in-Some.ensures.value) in
    rw (← c.self.view_is, found) (search rules)
