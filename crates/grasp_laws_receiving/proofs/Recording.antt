-- What is written down of a session.
use Rattle.std.proofs.Common.{refl}
use Rattle.grasp_laws_receiving.specs.Recording.{TranscriptsRecord}

pub transcripts_record : TranscriptsRecord
transcripts_record = record {
  kept = λ v now m. refl;
  said = record {
    message = λ v now m. refl;
    step = λ v now value. refl;
    wait = λ v now millis. refl;
    end = λ v now verdict. refl;
    invalid = λ v now detail. refl;
  };
  requests = record { asks = λ timeout now session o. refl; synchronizes = λ timeout now session o. refl; listens = λ timeout now session o. refl };
  marks = λ v mark. refl;
}
