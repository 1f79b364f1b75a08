use Rattle.system_core.proofs.Describing.{columns-for_good, description-stays}
use Rattle.system_core.proofs.laws.columns_stay.Goals as goal

pub returns : goal.returns
returns c = record {
  tables = columns-for_good;
  descriptions = λ old later more user other asked at at_later columns found new next lawful grown told told_later.
      description-stays old later more user other asked at at_later columns found lawful.journal grown told.0 told_later.0;
}
