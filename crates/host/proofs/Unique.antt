-- Each entry's promise admits one outcome.
use Rattle.std.proofs.Common.{sym, ◌∙◌}
use Rattle.words.proofs.Outcome.{OneResult, OneOutcome}
use Rattle.host.proofs.hf_encipher.Reads as encipher
use Rattle.host.proofs.hf_decipher.Reads as decipher
use Rattle.host.proofs.hf_seal.Reads as seal
use Rattle.host.proofs.hf_read.Reads as read
use Rattle.host.proofs.hf_patch.Reads as patch
use Rattle.host.proofs.hf_patch_list.Reads as patch_list
use Rattle.host.proofs.hf_compare_bank.Reads as compare_bank
use Rattle.host.proofs.hf_compare_image.Reads as compare_image
use Rattle.host.proofs.hf_next_changed.Reads as next_changed
use Rattle.host.proofs.hf_setting_set.Reads as setting_set
use Rattle.host.proofs.hf_setting_go_back.Reads as setting_go_back
use Rattle.host.proofs.hf_settings_read.Reads as settings_read

pub hf_encipher_one : OneOutcome encipher.Post (λ κ s. s.1.0.now)
hf_encipher_one κ a r r' s s' p p' = (p.0 ∙ sym p'.0, p.1 ∙ sym p'.1)

pub hf_decipher_one : OneOutcome decipher.Post (λ κ s. s.1.0.now)
hf_decipher_one κ a r r' s s' p p' = (p.0 ∙ sym p'.0, p.1 ∙ sym p'.1)

pub hf_seal_one : OneOutcome seal.Post (λ κ s. s.1.1.1.0.now)
hf_seal_one κ a r r' s s' p p' = (p.0 ∙ sym p'.0, p.1 ∙ sym p'.1)

pub hf_read_one : OneOutcome read.Post (λ κ s. s.1.1.1.1.1.1.0.now)
hf_read_one κ a r r' s s' p p' = (p.0 ∙ sym p'.0, p.1 ∙ sym p'.1)

pub hf_patch_one : OneOutcome patch.Post (λ κ s. s.1.1.1.0.now)
hf_patch_one κ a r r' s s' p p' = (p.0 ∙ sym p'.0, p.1 ∙ sym p'.1)

pub hf_patch_list_one : OneOutcome patch_list.Post (λ κ s. s.1.1.1.0.now)
hf_patch_list_one κ a r r' s s' p p' = (p.0 ∙ sym p'.0, p.1 ∙ sym p'.1)

pub hf_compare_bank_one : OneResult compare_bank.Post
hf_compare_bank_one κ a r r' s s' p p' = p ∙ sym p'

pub hf_compare_image_one : OneResult compare_image.Post
hf_compare_image_one κ a r r' s s' p p' = p ∙ sym p'

pub hf_next_changed_one : OneResult next_changed.Post
hf_next_changed_one κ a r r' s s' p p' = p ∙ sym p'

pub hf_setting_set_one : OneOutcome setting_set.Post (λ κ s. s.0.now)
hf_setting_set_one κ a r r' s s' p p' = (p.0 ∙ sym p'.0, p.1 ∙ sym p'.1)

pub hf_setting_go_back_one : OneOutcome setting_go_back.Post (λ κ s. s.0.now)
hf_setting_go_back_one κ a r r' s s' p p' = (p.0 ∙ sym p'.0, p.1 ∙ sym p'.1)

pub hf_settings_read_one : OneResult settings_read.Post
hf_settings_read_one κ a r r' s s' p p' = p ∙ sym p'
