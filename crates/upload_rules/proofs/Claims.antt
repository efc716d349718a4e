-- Every claim of the crate holds: the laws of the other files, put together.
use mathlib.Core.Path.{◌≡◌, ap, sym, ◌∙◌, subst}
use mathlib.Core.Logic.{◌≢◌}
use mathlib.Core.Bool.{false}
use mathlib.Core.List.{List}
use Prim.Native.Nat.{ℕ}
use native.Mathlib.Omega.{arith}
use Rattle.slots.specs.Answers.{given, refused}
use Rattle.index_rules.specs.Sound.{Sound}
use Rattle.index_rules.specs.Index.{Index, FitIndex}
use Rattle.index_rules.specs.Contents.{contents}
use Rattle.index_rules.specs.Calls.{Places}
use Rattle.index_rules.proofs.Fit.{false_of}
use Rattle.index_rules.proofs.Inserting.{insert_claims}
use Rattle.index_rules.proofs.Rolling.{rollback_claims}
use Rattle.endian.specs.Bytes.{Bytes}
use Rattle.upload_rules.specs.Reader.{unsaid, noting, FitReader, fits_reader}
use Rattle.upload_rules.specs.Reading.{Session, session, ReadOutcome, read_outcome, end_came, read_end}
use Rattle.upload_rules.specs.Steps.{ByteStep, short}
use Rattle.upload_rules.specs.Claims.{Claims, ReadCalls, Uploads}
use Rattle.upload_rules.proofs.Ranges.{range_in, bytes_range, end_range}
use Rattle.upload_rules.proofs.Cutting.{cut, cuts, chunk_again, end_again, chunk_stays, end_stays, answering, chunk_in, chunk_out}
use Rattle.upload_rules.proofs.Cutting.{end_in, end_out, byte_open, end_open}
use Rattle.upload_rules.proofs.Stepping.{turned_step, step}
use Rattle.upload_rules.proofs.Restoring.{chunk_restores, end_restores}
use Rattle.upload_rules.proofs.Starting.{start_claims}
use Rattle.upload_rules.proofs.Growing.{upload_short}
use Rattle.upload_rules.proofs.Moving.{not_whole}
use Rattle.upload_rules.proofs.Concluding.{chunk_taken, chunk_leaves, chunk_exactly, slot_exactly, slot_there, whole_exactly}
use Rattle.upload_rules.proofs.Concluding.{whole_leaves, end_exactly, end_plain}

module _ (d : Session) where
  unranged : (FitReader d.reader → ⊥) → fits_reader d.reader ≡ false
  unranged n = false_of (fits_reader d.reader) (λ e. n (range_in d.reader e))

  going_end : FitReader d.reader → d.reader.note ≡ unsaid → read_end d ≡ answering (end_came d.reader d.index)
  going_end h e = end_in d h ∙ ap answering (end_open d e)

  -- The end call of four whole sections answers the entries taken, and makes no call.
  end_last : FitReader d.reader → d.reader.note ≡ unsaid → d.reader.section ≡ 4
      → read_end d ≡ read_outcome (given d.reader.taken) (session (noting d.reader (given d.reader.taken)) d.index)
  unfolding end_came
  end_last h e f = going_end h e ∙ rw f

  end_step : FitReader d.reader → d.reader.section ≢ 4 → ByteStep d.reader d.index (end_came d.reader d.index)
  unfolding end_came
  end_step h n =
      let l = h.sections in
      rw (not_whole d.reader (omega arith)) (turned_step d.reader d.index (refused 12) short)

  call_claims : ReadCalls d
  call_claims =
      record {
        cutting = cut d;
        cuttings = cuts d;
        again = chunk_again d;
        ended = end_again d;
        stays = λ h a e l. (chunk_stays d h e l, end_stays d h e);
        outside = λ n l. (chunk_out d l (unranged n), end_out d (unranged n));
        inside = λ h l k. (
          subst (λ (o : ReadOutcome). FitReader o.left.reader) (sym (chunk_in d l h)) (bytes_range d k h),
          subst (λ (o : ReadOutcome). FitReader o.left.reader) (sym (end_in d h)) (end_range d h),
        );
        step = λ h e b. subst (ByteStep d.reader d.index) (sym (byte_open d b e)) (step d.reader d.index b h);
        agrees = λ hash key p m. (
          λ e. (rollback_claims d.index m).one.1 ((insert_claims d.index hash key p).one.0 e),
          λ e. (rollback_claims d.index m).two.1 ((insert_claims d.index hash key p).two.0 e),
        );
        last = end_last;
        short = λ h e n. subst (λ (o : ReadOutcome). ByteStep d.reader d.index o.left) (sym (going_end h e)) (end_step h n);
      }

module _ (ix : Index) (fit : FitIndex ix) (h : Sound ix.live) (words : Places (contents h)) (l : List ℕ) (k : Bytes l) where
  upload_claims : Uploads ix fit h words l k
  upload_claims =
      record {
        accepted = λ n.
            let e = whole_exactly ix fit h words k n in (
              λ y. (let a = e.0 y in (a.sections, a.upload, a.count, a.enters)),
              λ y. e.1 (record { sections = y.0; upload = y.1; count = y.2; enters = y.3 }),
            );
        holds = λ ss u c. whole_leaves ix fit h words k u c;
        taken = chunk_taken ix fit h words k;
        so_far = λ part c. chunk_leaves ix fit h words c;
        refusing = chunk_exactly ix fit h words k;
        ending = end_exactly ix fit h words k;
        slot = slot_exactly ix fit h words k;
        present = slot_there ix fit h words k;
        plain = end_plain ix fit h words k;
        restores = chunk_restores ix fit h words k;
        restored = end_restores ix fit h words k;
      }

pub claims : Claims
claims = record { bytes = upload_short; start = start_claims; calls = call_claims; uploads = upload_claims }
