use Rattle.std.proofs.Common.{◌≡◌, ◌∙◌, ap, map, sym, subst, suc, length, ◌+◌, ◌++◌, ◌∷◌, [], arith, rules}
use Rattle.std.proofs.lemmas.List.{map-append}
use Rattle.ml_list_desk.specs.Items.{lists_seen}
use Rattle.ml_program.specs.LoadedProgram.{program_of}
use Rattle.ml_search.specs.ProgramSeen.{script_seen}
use Rattle.ml_entries.specs.Entries.{contents, AreEntries, AreLists}
use Rattle.ml_entries.proofs.EntryBlocks.{value_at, one_block_more}
use Rattle.ml_entries.proofs.entries.blocks_in_turn.Goals as goal

pub loop-i-preserved : goal.loop-i-preserved
loop-i-preserved c =
    let p = program_of c.args.program.now in
    let db = lists_seen c.args.first.items in
    let before = lists_seen c.loop-i.items.items in
    let after = lists_seen c.entry_block.new.items.items in
    let scripts = map script_seen c.args.scripts.now in
    let i = c.loop-i.i in
    let blocks = contents c.loop-i.blocks.items in
    let block = c.in_ok-block.block in
    let pushed : contents c.push.new.self.items ≡ blocks ++ block.items ∷ [] =
    ap contents c.in_ok-push.ensures.items ∙ map-append (λ b. b.items) c.loop-i.blocks.items (block ∷ []) in
    let at = value_at script_seen c.args.scripts.now i c.index-scripts-i.result c.loop-i-test.true c.index-scripts-i.is in
    let next : suc (i + 1) ≡ i + 1 + 1 = omega arith in
    record {
      entries =
          subst (λ bs. AreEntries p db scripts (i + 1) bs after) (sym pushed)
          (one_block_more p db scripts i (i + 1) blocks (script_seen c.index-scripts-i.result) block.items before after
          c.loop-i.invariant.entries (omega arith) at c.in_ok-block.ensures.entry);
      lists = subst (λ k. AreLists c.args.decls.now k after) next c.in_ok-block.ensures.lists;
    }

pub returns : goal.returns
returns c =
    let same : c.loop-i.i ≡ length c.args.scripts.now = search rules in (
      lists_seen c.loop-i.items.items,
      subst
          (λ n. AreEntries (program_of c.args.program.now) (lists_seen c.args.first.items) (map script_seen c.args.scripts.now) n
          (contents c.loop-i.blocks.items) (lists_seen c.loop-i.items.items)) same c.loop-i.invariant.entries,
    )
