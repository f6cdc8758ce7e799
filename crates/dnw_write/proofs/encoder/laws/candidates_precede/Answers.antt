use Rattle.dnw_write.proofs.Preceding.{fills_precede, names_precede, new_precede, places_precede, rewinds_precede, stores_precede, texts_precede, trims_precede, writes_precede}
use Rattle.dnw_write.proofs.encoder.laws.candidates_precede.Goals as goal

pub returns : goal.returns
returns c = record {
  new = new_precede;
  writes = writes_precede;
  texts = texts_precede;
  places = places_precede;
  fills = fills_precede;
  names = names_precede;
  stores = stores_precede;
  trims = trims_precede;
  rewinds = rewinds_precede;
}
