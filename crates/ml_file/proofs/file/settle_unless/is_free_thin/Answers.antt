use Rattle.std.proofs.Common.{◌≡◌, Bool, List, true, false, true≢false, sym, ap, ◌∙◌, refl, subst, arith}
use Rattle.std.proofs.lemmas.Bool.{both_ways}
use Rattle.ml_split.specs.RegionSplits.{is_thin}
use Rattle.ml_region.specs.Regions.{region_at}
use Rattle.ml_file.specs.SettledUnless.{IsFreeThin}
use Rattle.ml_file.proofs.FreeSettling.{free_by}
use Rattle.ml_file.proofs.SettleSteps.{thin_nested}
use Rattle.ml_file.proofs.file.settle_unless.is_free_thin.Goals as goal
use Rattle.ml_file.proofs.file.settle_unless.is_free_thin.Goals.{then-not-is_thin-via-then-not-is_thin, then-not-is_thin-via-else-not-is_thin+then-held}

pub returns-then-not-is_thin-clause-free : goal.returns-then-not-is_thin-clause-free
returns-then-not-is_thin-clause-free g c h a = (
  λ no. absurd (true≢false (sym no)),
  λ known. elim c.then-not-is_thin.branch [
    | then-not-is_thin-via-then-not-is_thin w ↦ absurd (both_ways c.is_thin.result w.if-not-is_thin.true (c.is_thin.ensures ∙ known.thin))
    | then-not-is_thin-via-else-not-is_thin+then-held w ↦
        let answer = a w.prefix.result.now w.held.result (record { shown = _; shows = refl; says = record { met = w.held.ensures } }) in
        absurd (both_ways w.held.result (answer ∙ ap h w.prefix.ensures.bits ∙ known.free) w.if-held.true)
  ],
)

pub returns-in_default-clause-free : goal.returns-in_default-clause-free
returns-in_default-clause-free g c h a = (
  λ no. absurd (true≢false (sym no)),
  λ known.
      let nested = thin_nested c.args.regions.now.regions c.args.i c.len-well_placed.ensures.well_placed known.thin in
      absurd (omega (arith, nested, c.in_default.ensures)),
)

pub returns-clause-free : goal.returns-clause-free
returns-clause-free g c h a =
    let own = a c.prefix.result.now c.held.result (record { shown = _; shows = refl; says = record { met = c.held.ensures } }) in
    let above = a c.prefix-2.result.now c.held-2.result (record { shown = _; shows = refl; says = record { met = c.held-2.ensures } }) in
    free_by h c.args.regions.now.regions c.args.i c.in-Some.parent c.held-2.result c.len-well_placed.ensures.well_placed c.requires.region
    (sym c.is_thin.ensures ∙ c.if-not-is_thin.false) (ap h (sym c.prefix.ensures.bits) ∙ sym own ∙ c.if-held.false) c.in-Some.ensures
    (above ∙ ap h c.prefix-2.ensures.bits)
