use Rattle.std.proofs.Common.{◌<◌, List, length, sym, ap, ◌∙◌, arith}
use Rattle.ml_region.specs.declared.kept.Kept.{Kept}
use Rattle.ml_region.proofs.SortedElements.{kept_length, kept_prefix}
use Rattle.ml_region.proofs.prefixes.VecKeptPrefixes.prefix.Goals as goal

pub returns : goal.returns
returns c =
    let kept : List Kept = c.args.self.now.items in
    let inside : c.args.i < length kept = omega (arith, kept_length kept, c.requires) in
    ap (λ (k : Kept). k.prefix.bits) c.index.ensures ∙ sym (kept_prefix kept c.args.i c.index.result.now inside)
