-- What callers may cite of images.
-- the limits of a form are within those of any
pub use Rattle.ir_image.proofs.Forms.{word_limit_positive, form_words_within, thread_limit_positive, form_threads_within, form_objects_within}
-- so are a guest's parts
pub use Rattle.ir_image.proofs.Forms.{guest_threads_within, guest_objects_within, guest_words_within}
-- words, and 0 after them
pub use Rattle.ir_image.proofs.Forms.{get_or_zero-padded}
-- words of whole objects
pub use Rattle.ir_image.proofs.Forms.{words_div_is_objects, whole_words_divide, whole_words_multiply}
pub use Rattle.ir_image.proofs.Fields.{place_test_sound}
pub use Rattle.ir_image.proofs.Block.{tail_words_are_read}
