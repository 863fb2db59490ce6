-- One call on the sealing afresh of slots goes as on the slots.
use Rattle.std.proofs.Common.{◌≡◌, ℕ, ◌/◌, ◌%◌, List, [], ◌++◌, length, take, drop, set, refl, ap, ◌∙◌}
use Rattle.spans.specs.Bytes.{Bytes}
use Rattle.spans.specs.Parts.{splice}
use Rattle.spans.specs.Refusals.{given}
use Rattle.spans.proofs.BytesLaws.{AllBytes}
use Rattle.spans.proofs.RefusalLaws.{given_other, given_after, given_last}
use Rattle.twofish.specs.declared.Twofish.{Twofish}
use Rattle.block.specs.Block.{enciphered, deciphered, Schedule}
use Rattle.sealed.specs.declared.Geometry.{Geometry}
use Rattle.sealed.specs.declared.Seen.{Seen}
use Rattle.sealed.specs.declared.Seen.TheVariants.{Own}
use Rattle.sealed.specs.Record.{filled, page_of}
use Rattle.sealed.specs.Image.{slot, image_length, offset_reached, within_page, record_at, image_refusals, refusals, seal_number, seen_at, look_refusals, other_place, access_number, sealed_in, patched_in, read_from}
use Rattle.sealed.proofs.ImageLaws.{There, takes}
use Rattle.sealed.proofs.AccessLaws.{Opens, own}
use Rattle.sealed.proofs.OpenLaws.{filled-page}
use Rattle.sealed.proofs.PageLaws.{filled-bytes, patched-bytes}
use Rattle.history.specs.Calls.{Call, Seal, Patch, Read, WritesBytes, before_look, image_number, image_place, image_bytes, image_next, on_image}
use Rattle.history.specs.Slots.{Slot, Page, held, slot_of, slot_seen, slot_access, slots_number, slots_place, slots_bytes, slots_next, on_slots, image_of, Slots}
use Rattle.history.proofs.RunLaws.{Follows}
use Rattle.history.proofs.PlaceLaws.{reaches}
use Rattle.history.proofs.SlotLaws.{image_of-length, set-there, sealed_in-there, whose-there, opened-there}

module _ (t : Twofish) (G : Geometry) (s : Schedule t) (slots : List Slot) (h : Slots t G slots) where
  abbrev image : List ℕ
  image = image_of t G slots

  long : length image ≡ image_length G
  long = image_of-length t G s slots h

  -- a patch or a read
  module _ (bank offset n : ℕ) where
    -- where nothing is refused before it, a look finds in the record what it finds in the slot
    same_look : given (before_look t G bank offset n) ≡ 0 → seen_at t G image bank offset ≡ slot_seen t G slots bank offset
    unfolding seen_at slot_seen
    same_look e = whose-there t G s slots h bank (offset / 256) (reaches t G bank offset n e).there

    same_access : access_number t G image bank offset n ≡ slot_access t G slots bank offset n
    unfolding access_number slot_access before_look
    same_access =
        ap (λ (m : ℕ). given (refusals t G m (offset_reached G bank offset) (within_page offset n) ++ look_refusals (seen_at t G image bank offset))) long
        ∙ given_last (before_look t G bank offset n) _ _ (λ e. ap (λ (x : Seen). given (look_refusals x)) (same_look e))

    -- 11 is given by the look alone
    same_place : slot_access t G slots bank offset n ≡ 11 → other_place (seen_at t G image bank offset) ≡ other_place (slot_seen t G slots bank offset)
    unfolding slot_access before_look refusals image_refusals given
    same_place e =
        let k = given_other 11 (before_look t G bank offset n) (look_refusals (slot_seen t G slots bank offset)) tt e in
        ap other_place (same_look (given_after (before_look t G bank offset n) [] k.0))

    abbrev plain_page : List ℕ
    plain_page = held (slot_of G bank (offset / 256) slots)

    -- done: its record opens to the slot's page
    module _ (e : slot_access t G slots bank offset n ≡ 0) where
      passed : (given (before_look t G bank offset n) ≡ 0) × (slot_seen t G slots bank offset ≡ Own)
      unfolding slot_access before_look refusals image_refusals given
      passed =
          let k = given_other 0 (before_look t G bank offset n) (look_refusals (slot_seen t G slots bank offset)) tt e in
          (given_after (before_look t G bank offset n) [] k.0, own (slot_seen t G slots bank offset) k.1)

      reached : Opens t G (image_length G) bank offset n
      reached = reaches t G bank offset n passed.0

      opened : (page_of (deciphered t) (record_at G bank (offset / 256) image) ≡ plain_page) × Bytes 256 plain_page
      unfolding slot_seen
      opened = opened-there t G s slots h bank (offset / 256) reached.there passed.1

      same_bytes : read_from (deciphered t) G bank offset n image ≡ take n (drop (offset % 256) plain_page)
      unfolding read_from
      same_bytes = ap (λ (l : List ℕ). take n (drop (offset % 256) l)) opened.0

  -- a patch that is done
  module _ (bank offset : ℕ) (bytes : List ℕ) (b : AllBytes bytes) (e : slot_access t G slots bank offset (length bytes) ≡ 0) where
    abbrev patched : List ℕ
    patched = splice (offset % 256) bytes (plain_page bank offset (length bytes))

    abbrev there : There G bank (offset / 256)
    there = (reached bank offset (length bytes) e).there

    patched-page : Bytes 256 patched
    patched-page = patched-bytes (offset % 256) bytes _ (reached bank offset (length bytes) e).inside b (opened bank offset (length bytes) e).1

    same_patch : patched_in (enciphered t) (deciphered t) G bank offset bytes image ≡ image_of t G (set slots (slot G bank (offset / 256)) (Page patched))
    unfolding patched_in
    same_patch =
        ap (λ (l : List ℕ). sealed_in (enciphered t) G bank (offset / 256) (splice (offset % 256) bytes l) image) (opened bank offset (length bytes) e).0
        ∙ sealed_in-there t G s slots h bank (offset / 256) there patched patched (filled-page patched patched-page.long) patched-page

    kept_patch : Slots t G (set slots (slot G bank (offset / 256)) (Page patched))
    kept_patch = set-there t G s slots h bank (offset / 256) there patched patched-page

  -- a seal that is done
  module _ (bank page : ℕ) (plain : List ℕ) (b : AllBytes plain) (e : seal_number t G (image_length G) bank page (length plain) ≡ 0) where
    page-made : Bytes 256 (filled plain)
    page-made = filled-bytes plain (takes e).fits b

    same_seal : sealed_in (enciphered t) G bank page plain image ≡ image_of t G (set slots (slot G bank page) (Page (filled plain)))
    same_seal = sealed_in-there t G s slots h bank page (takes e).there plain (filled plain) refl page-made

    kept_seal : Slots t G (set slots (slot G bank page) (Page (filled plain)))
    kept_seal = set-there t G s slots h bank page (takes e).there (filled plain) page-made

  pub image_follows : (c : Call) → WritesBytes c → Follows (on_image t G) (on_slots t G) (image_of t G) (Slots t G) c slots
  unfolding WritesBytes image_number image_place image_bytes image_next slots_number slots_place slots_bytes slots_next
  image_follows (Seal bank page plain) b =
      record {
        number = ap (λ (m : ℕ). seal_number t G m bank page (length plain)) long;
        place = λ e. refl;
        bytes = λ e. refl;
        next = same_seal bank page plain b;
        keeps = kept_seal bank page plain b;
      }
  image_follows (Patch bank offset bytes) b =
      record {
        number = same_access bank offset (length bytes);
        place = same_place bank offset (length bytes);
        bytes = λ e. refl;
        next = same_patch bank offset bytes b;
        keeps = kept_patch bank offset bytes b;
      }
  image_follows (Read bank offset out) b =
      record {
        number = same_access bank offset (length out);
        place = same_place bank offset (length out);
        bytes = same_bytes bank offset (length out);
        next = λ e. refl;
        keeps = λ e. h;
      }
