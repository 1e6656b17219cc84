-- `decoder::decode_word` meets its contract: u4 upward fits.
use Rattle.g9932.specs.Bits.{odd}
use Rattle.decoder.specs.Reading.{decoded_of}
use Rattle.decoder.proofs.DecodePair.{decoded_shift}
use Rattle.decoder.proofs.decode_word.Goals as goal

pub returns : goal.returns
unfolding odd decoded_of
returns c = rw (decoded_shift c.args.w c.args.x c.requires.1 c.requires.3)
