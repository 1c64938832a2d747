-- `image::number::read` meets its contract. Assumes nothing.
use Rattle.std.proofs.Common.{◌≡◌, ◌∙◌, ◌+◌, sym, arith, drop, length-drop}
use Rattle.image.specs.Header.{digits}
use Rattle.image.proofs.Digits.{digits_prefix, digits_few}
use Rattle.image.proofs.NumberAt.{number_digits, number_loose, number_other, number_value}
use Rattle.image.proofs.number.read.Goals as goal
use Rattle.image.proofs.number.read.Goals.{then-not-is_strict-via-then-not-is_strict, then-not-is_strict-via-else-not-is_strict+then-byte_at-stop}

pub overflow_add-end : goal.overflow_add-end
overflow_add-end c =
    let bytes = drop c.args.at c.args.file.now in
    omega (arith, c.digits.ensures ∙ digits_prefix bytes, digits_few bytes, length-drop c.args.at c.args.file.now)

pub is_strict-requires : goal.is_strict-requires
is_strict-requires c = omega (arith, c.digits.ensures ∙ digits_prefix (drop c.args.at c.args.file.now))

pub returns-then-not-is_strict : goal.returns-then-not-is_strict
returns-then-not-is_strict c =
    let end : c.args.at + c.digits.result ≡ c.args.at + digits (drop c.args.at c.args.file.now) = omega (arith, c.digits.ensures ∙ digits_prefix (drop c.args.at c.args.file.now)) in
    elim c.then-not-is_strict.branch [
      | then-not-is_strict-via-then-not-is_strict w ↦ sym (number_loose _ _ _ (sym c.is_strict.ensures ∙ w.if-not-is_strict.true))
      | then-not-is_strict-via-else-not-is_strict+then-byte_at-stop w ↦
          sym (number_other _ _ _ _ _ end w.byte_at.ensures (sym c.is_strict.ensures ∙ w.if-not-is_strict.false) w.if-byte_at-stop.true)
    ]

pub value-requires : goal.value-requires
value-requires c =
    let end : c.args.at + c.digits.result ≡ c.args.at + digits (drop c.args.at c.args.file.now) = omega (arith, c.digits.ensures ∙ digits_prefix (drop c.args.at c.args.file.now)) in
    number_digits _ _ _ end (sym c.is_strict.ensures ∙ c.if-not-is_strict.false)

pub returns : goal.returns
returns c =
    let end : c.args.at + c.digits.result ≡ c.args.at + digits (drop c.args.at c.args.file.now) = omega (arith, c.digits.ensures ∙ digits_prefix (drop c.args.at c.args.file.now)) in
    sym (number_value _ _ _ _ _ end c.byte_at.ensures (sym c.is_strict.ensures ∙ c.if-not-is_strict.false) c.if-byte_at-stop.false _ c.value.ensures)
