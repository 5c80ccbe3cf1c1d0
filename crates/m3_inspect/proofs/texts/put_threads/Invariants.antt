use Rattle.std.proofs.Common.{◌≡◌, ◌++◌, drop, flat_map, map}
use Rattle.m3_image.specs.Views.{image_view}
use Rattle.m3_inspect.specs.Shown.{shown_thread}
use Rattle.m3_inspect.specs.Texts.{thread_text}
use Rattle.m3_inspect.proofs.texts.put_threads.Given as goal

abbrev pub invariant-threads : goal.invariant-threads
invariant-threads l =
    l.text.items ++ flat_map (thread_text (image_view l.fn.image)) (map shown_thread (drop l.thread-index l.fn.threads)) ≡ l.fn.text.items ++ flat_map (thread_text (image_view l.fn.image)) (map shown_thread l.fn.threads)
