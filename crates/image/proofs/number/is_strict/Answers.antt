-- `image::number::is_strict` meets its contract. Assumes nothing.
use Rattle.std.proofs.Common.{◌≡◌, ◌-◌, sym, ◌∙◌, arith, drop}
use borrow.Author.Tests.{eq-eqb}
use Rattle.image.specs.Header.{digits}
use Rattle.image.proofs.Digits.{strict_loose, strict_one, strict_more}
use Rattle.image.proofs.number.is_strict.Goals as goal

pub returns-then-count-eq1 : goal.returns-then-count-eq1
returns-then-count-eq1 c =
    let counted : c.args.end - c.args.at ≡ digits (drop c.args.at c.args.file.now) = omega arith in
    eq-eqb _ 1 c.if-count-eq1.true ∙ sym (strict_one _ counted c.if-count-eq1.true)

pub returns-else-count-eq1 : goal.returns-else-count-eq1
returns-else-count-eq1 c =
    let counted : c.args.end - c.args.at ≡ digits (drop c.args.at c.args.file.now) = omega arith in
    strict_more c.args.file.now c.args.at counted (sym c.is_within.ensures ∙ c.if-is_within.true) c.if-count-eq1.false c.byte_at.ensures

pub returns-else-is_within : goal.returns-else-is_within
returns-else-is_within c =
    let counted : c.args.end - c.args.at ≡ digits (drop c.args.at c.args.file.now) = omega arith in
    c.if-is_within.false ∙ sym (strict_loose _ counted (sym c.is_within.ensures ∙ c.if-is_within.false))
