use Rattle.process_laws.proofs.WrongModels.{changed_slot_is_marked, fence_takes_the_mark, no_mark_unasked, takes_none_of_none, mappings_have_pages, mapped_in_one, writes_the_last, files_stay_as_many, copied_to_is_unmarked, read_page_keeps_its_frame, bad_argument_first, impossible_in_its_phase, maps_as_high_as_fits, one_frame_one_page, sizes_above_the_base, unmaps_a_range, writes_what_it_must, bad_image_never_starts, exec_empties_the_heap, exec_frees_the_old, exec_lacks_no_frame, no_tables_unasked, parted_if_shared, service_with_frames, settled_on_its_own, start_with_frames, child_has_the_regions, copy_of_another_kind, copy_with_frames, fault_tells_its_cause, loaded_page_stays_unmarked, mapped_as_asked, no_call_for_nobody, no_mapping_over_another, no_mark_by_service, no_second_fault, place_stays, released_has_none, trap_keeps}
use Rattle.process_laws.proofs.refusals.wrong_models_are_refused.Goals as goal

pub returns : goal.returns
returns c = record {
  second_fault = no_second_fault;
  other_cause = fault_tells_its_cause;
  short_copy = copy_with_frames;
  trap = trap_keeps;
  released = released_has_none;
  place = place_stays;
  mapped = mapped_as_asked;
  over = no_mapping_over_another;
  cow = no_mark_by_service;
  dirty = loaded_page_stays_unmarked;
  child = child_has_the_regions;
  kind = copy_of_another_kind;
  bad_image = bad_image_never_starts;
  nobody = no_call_for_nobody;
  start_frames = start_with_frames;
  service_frames = service_with_frames;
  bad_exec = exec_lacks_no_frame;
  exec_frees = exec_frees_the_old;
  heap_base = exec_empties_the_heap;
  settled_frame = settled_on_its_own;
  unasked_frame = read_page_keeps_its_frame;
  shared_frame = parted_if_shared;
  tables = no_tables_unasked;
  no_range = unmaps_a_range;
  below_base = sizes_above_the_base;
  high = maps_as_high_as_fits;
  written = writes_what_it_must;
  one_frame = one_frame_one_page;
  order = bad_argument_first;
  phase = impossible_in_its_phase;
  none_free = takes_none_of_none;
  no_page = mappings_have_pages;
  cut = mapped_in_one;
  last = writes_the_last;
  stale = changed_slot_is_marked;
  unasked_mark = no_mark_unasked;
  mark_stays = fence_takes_the_mark;
  count = files_stay_as_many;
  copy_mark = copied_to_is_unmarked;
}
