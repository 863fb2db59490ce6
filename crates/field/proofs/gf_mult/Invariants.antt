-- The loop of `field::gf_mult`: the result so far and the product of what is left of a with b make the whole product, and a has a digit for each
-- turn that is left.
use Rattle.std.proofs.Common.{◌≡◌, ◌+◌, ◌-◌, ◌^◌, ◌<◌}
use lib.Bits.{bit_xor}
use Rattle.field.specs.Field.{mul}
use Rattle.field.proofs.gf_mult.Given as goal

abbrev pub invariant-loop : goal.invariant-loop
invariant-loop l =
    record {
      whole : bit_xor l.result (mul (256 + l.p) l.a l.b) ≡ mul (256 + l.p) l.fn.a l.fn.b;
      left : l.a < 256;
      digits : l.a < 2 ^ (8 - l.counter);
      doubled : l.b < 256;
    }
