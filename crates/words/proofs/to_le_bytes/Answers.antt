-- `words::to_le_bytes` meets its contract: four bytes, each the word's, however the code lays them down.
use Rattle.std.proofs.Common.{◌≡◌, rules, div-one}
use Rattle.words.specs.Word.{byte_of, bytes_of}
use Rattle.words.proofs.Bytes.{four}
use Rattle.words.proofs.to_le_bytes.Goals as goal

pub returns : goal.returns
unfolding bytes_of byte_of
returns c =
    let e : c.to_le_bytes.result ≡ bytes_of c.args.x = rw div-one c.to_le_bytes.ensures in
    let f = four c.to_le_bytes.result (search rules) in
    cc
