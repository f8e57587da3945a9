use Rattle.std.proofs.Common.{◌≡◌, ap, sym, ◌∙◌}
use Rattle.std.specs.Ordering.{bool_cmp}
use Rattle.std.specs.Cmp.Lexicographic.{slice_cmp}
use Rattle.ml_bits.proofs.PackedOrder.{packed_cmp}
use Rattle.ml_bits.proofs.OrderLaws.{itself_cmp, same_from_cmp, extension_cmp, difference_cmp}
use Rattle.ml_bits.proofs.bit_list.Bits.cmp.Goals as goal

pub returns : goal.returns
returns c =
    let first = ap (λ v. v.bits) c.self.view_is in
    let second = ap (λ v. v.bits) c.other.view_is in
    let value : c.then.result ≡ slice_cmp bool_cmp c.args.self.now.bits c.args.other.now.bits =
    rw (c.then.ensures, c.word_cmp.ensures, c.cmp.ensures, c.deref.ensures.value, c.deref-2.ensures.value, ← first, ← second)
    (sym (packed_cmp _ _ _ _ c.self.invariant.packed c.other.invariant.packed)) in
    record {
      value = value;
      equal = (λ e. same_from_cmp _ _ (sym value ∙ e), λ e. value ∙ ap (slice_cmp bool_cmp c.args.self.now.bits) (sym e) ∙ itself_cmp c.args.self.now.bits);
      extension = λ b h. value ∙ extension_cmp _ _ b h;
      difference = λ n k h g. value ∙ difference_cmp _ _ n k.same h g (k.apart h g);
    }
