-- Two requests that are the same by the test are equal.
use mathlib.Core.Path.{◌≡◌, refl, ap}
use mathlib.Core.Bool.{true}
use borrow.Author.Tests.{eqb-true}
use Rattle.detector.specs.declared.request.Request.{Request}
use Rattle.detector.specs.declared.request.Request.TheVariants.{Off, Pr, Ric}
use Rattle.detector.specs.Request.{same_as}

pub same_equal : (a b : Request) → same_as a b ≡ true → a ≡ b
same_equal Off Off t = refl
same_equal Off (Pr rp) t = cc
same_equal Off (Ric rit) t = cc
same_equal (Pr rp) Off t = cc
same_equal (Pr rp) (Pr rp₁) t = ap Pr (eqb-true rp rp₁ t)
same_equal (Pr rp) (Ric rit) t = cc
same_equal (Ric rit) Off t = cc
same_equal (Ric rit) (Pr rp) t = cc
same_equal (Ric rit) (Ric rit₁) t = ap Ric (eqb-true rit rit₁ t)
