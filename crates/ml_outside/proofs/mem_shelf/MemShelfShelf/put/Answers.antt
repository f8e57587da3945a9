use Rattle.std.proofs.Common.{◌≡◌, Some, ap, rules}
use Rattle.std.specs.String.{string_bytes}
use Rattle.ml_outside.proofs.FileEntries.{insert_files}
use Rattle.ml_outside.proofs.mem_shelf.MemShelfShelf.put.Goals as goal

pub returns-clause-ok : goal.returns-clause-ok
returns-clause-ok c =
    let copied : c.in_ok-copy.copy.items ≡ c.args.bytes.now = search rules in
    let inserted = insert_files c.self.inside.files c.insert.new.self (string_bytes c.in_ok-key.key) c.in_ok-copy.copy c.in_ok-insert.ensures.updates in
    ap Some (rw (← c.self.view_is, ← copied, ← c.in_ok-key.ensures.ok) inserted)
