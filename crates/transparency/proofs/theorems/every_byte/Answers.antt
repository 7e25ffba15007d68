use Rattle.transparency.proofs.Bytes.{flat-after, load-byte-after, store-byte-after, store-others-after, flat-load-after, flat-store-after, flat-others-after, zva-after}
use Rattle.transparency.proofs.theorems.every_byte.Goals as goal

pub returns : goal.returns
returns c = assumption (flat-after, load-byte-after, store-byte-after, store-others-after, flat-load-after, flat-store-after, flat-others-after, zva-after)
