use Rattle.std.proofs.Common.{◌-◌, arith, drop, length-drop, take_all}
use Rattle.std.proofs.lemmas.Str.{IsUtf8-from_ascii}
use Rattle.dmatypes.proofs.texts.Hexadecimal.{digits_ascii}
use Rattle.dmatypes.proofs.reply_text.push_hexadecimal.Goals as goal

pub from_utf8_unchecked-requires : goal.from_utf8_unchecked-requires
from_utf8_unchecked-requires c =
    let w = c.write_hexadecimal-start in
    IsUtf8-from_ascii _ (rw (
      take_all (16 - w.result) (drop w.result w.new.buffer)
          (omega (arith, length-drop w.result w.new.buffer)),
      w.ensures.written,
    ) (digits_ascii c.args.n))
