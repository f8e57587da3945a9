use Rattle.std.proofs.Common.{◌≡◌, ◌+◌, ◌≤◌, length}
use Rattle.ml_token.specs.Quoted.{inside}
use Rattle.ml_token.proofs.quoted.quoted_token.Given as goal

abbrev pub invariant-parts : goal.invariant-parts
invariant-parts l = record {
  name : l.held + length (inside 0 l.rest).name ≡ length (inside 0 l.text).name;
  width : l.width + (inside 0 l.rest).width ≡ (inside 0 l.text).width;
  ending : (inside 0 l.rest).ending ≡ (inside 0 l.text).ending;
  within : l.width + length l.rest ≡ length l.text;
  short : l.held ≤ 255;
}

abbrev pub decreases-parts : goal.decreases-parts
decreases-parts l = length l.rest
