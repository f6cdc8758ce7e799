-- The words of the public contracts, gathered for callers: a clause or a proof of theirs writes
-- `Rattle.dns_names_wire.specs.Words.{TakesName, wire}` and names no crate below this one.

-- Limits (RFC 1035, section 2.3.4).
pub use Rattle.dnw_base.specs.Limits.{max_label, max_labels, max_name, max_character_data, max_message, max_pointers}
-- the codes of types that rules name, and what is before the signer in an RRSIG
pub use Rattle.dnw_base.specs.TypeCodes.{a_code, aaaa_code, any_code, axfr_code, cname_code, dname_code, ds_code, ixfr_code, key_code, mx_code, ns_code, nsec_code, nsec3_code}
pub use Rattle.dnw_base.specs.TypeCodes.{nxt_code, opt_code, ptr_code, rrsig_code, sig_code, soa_code, srv_code, tsig_code, zonemd_code}
pub use Rattle.dnw_data.specs.Signature.{before_signer}
pub use Rattle.dnw_base.specs.Limits.{min_payload, max_data, max_window, pointer_bits, pointer_offsets, pointer_reach}
-- Errors.
pub use Rattle.dnw_base.specs.declared.error.ProtoError.{ProtoError}
pub use Rattle.dnw_base.specs.Fault.{Fault, Follows, NeedsErrorText, Updates}
pub use Rattle.dnw_base.specs.Copies.{IsDecodeCopyOf, OwnsText, OwnsDecodeText}
-- Untrusted values.
pub use Rattle.dnw_base.specs.Checked.{difference}
pub use Rattle.dnw_base.specs.Verified.{verified_value, verified_verdict}
-- Labels, names and their wire form.
pub use Rattle.dnw_base.specs.Labels.{IsLabel, wildcard}
pub use Rattle.dnw_base.specs.Names.{NameValue, AreLabels, IsWildcard, encoded_size, lower, wire, labels_wire}
pub use Rattle.dnw_name_form.specs.Edits.{append_label, prepend_label, append_name, append_domain, from_labels, with_label}
pub use Rattle.dnw_name_form.specs.Edits.{base_name, trim_to, into_wildcard}
-- Order, equality, hash and sort keys of labels and names.
pub use Rattle.dnw_name_form.specs.LabelOrder.{label_cmp, label_eq, label_hash_input, lower_label, octets_cmp}
pub use Rattle.dnw_name_order.specs.Order.{labels_cmp, labels_cmp_case, name_cmp, name_cmp_case, name_eq, name_eq_case, name_hash_input, IsZoneOf}
pub use Rattle.dnw_name_order.specs.Order.{IsZoneOfCase, IsLocalhost, localhost}
pub use Rattle.dnw_name_form.specs.LabelOrder.{IsTotalPreorder, IsOctet, AreOctets, octet_cmp_ignore_case}
pub use Rattle.dnw_name_order.specs.OrderLaws.{name_cmp_total, name_cmp_case_total, name_ties, name_case_ties, name_eq_parts, name_eq_case_parts}
pub use Rattle.dnw_name_order.specs.SortKeys.{escape_octet, label_key, max_sort_key, sort_key}
pub use Rattle.dnw_name_order.specs.SortKeyLaws.{KeysCompare, KeysCompareNames, KeysAreEqual, ZonesBegin, KeysAreShort}
pub use Rattle.dnw_name.specs.FromLabels.{JoinsItems, JoinsAll, RunsOutAt}
-- Names in lower case.
pub use Rattle.dnw_name_zones.specs.LowerNames.{lowered, IsLower, lower_name_from_text, lower_name_hash_input, TakesLowerName}
-- Types and classes of records.
pub use Rattle.dnw_base.specs.declared.record_type.RecordType.{RecordType}
pub use Rattle.dnw_base.specs.RecordTypes.{type_code, type_name, type_text, type_of_code, type_of_name, type_of_text, type_cmp, type_hash, is_dnssec, is_unknown}
pub use Rattle.dnw_base.specs.declared.dns_class.DNSClass.{DNSClass}
pub use Rattle.dnw_base.specs.DnsClasses.{class_code, class_name, class_text, class_of_code, class_of_name, class_of_text, class_cmp, class_hash, class_rank}
pub use Rattle.dns_names_wire.specs.CodeLaws.{TypeCodesComeBack, NamedTypesComeBack, UnknownTypesComeBack}
pub use Rattle.dns_names_wire.specs.CodeLaws.{ClassCodesComeBack, NamedClassesComeBack, UnknownClassesComeBack, SizesStayUnknown}
pub use Rattle.dnw_base.specs.Naming.{Looks, ReportsType, ReportsClass}
-- Texts of labels and names, as hickory-proto has them.
pub use Rattle.dnw_name_form.specs.LabelText.{dot, label_from_bytes, label_from_text, label_text}
pub use Rattle.dnw_name_text.specs.AsciiText.{IsLabelText, max_text, name_from_text, name_from_text_at, name_text}
pub use Rattle.dnw_name_text.specs.AsciiFaults.{Gives, GoesWrong, GoesWrongBy, IsNameText, rule_of}
-- Texts of names in master files.
pub use Rattle.dnw_name_text.specs.declared.error.NameTextError.{NameTextError}
pub use Rattle.dnw_name_text.specs.NameTexts.{full_name_text, relative_name_text, text_of_name}
pub use Rattle.dnw_name_text.specs.NameReading.{name_of_text, origin_labels}
pub use Rattle.dnw_name_text.specs.NameTextLaws.{FullNamesComeBack, NamesComeBack}
-- Nets and reverse names.
pub use Rattle.dnw_name_arpa.specs.declared.net.IpNet.{IpNet}
pub use Rattle.dnw_name_arpa.specs.Nets.{NetValue, ipv4_size, ipv6_size}
pub use Rattle.dnw_name_arpa.specs.NetTexts.{net_addr, net_prefix_len, ip_size, IsPastSize, ip_net_text}
pub use Rattle.dnw_name_arpa.specs.Arpa.{ArpaPrefix, ArpaFault, GivesPrefix, GiveValues, IsArpaPrefix, arpa_labels, arpa_name, arpa_prefix, ip_prefix, reverse_name}
pub use Rattle.dnw_name_arpa.specs.ArpaNets.{IsNetOf, ReadsNet}
pub use Rattle.dnw_name_arpa.specs.ArpaLaws.{IsIpAddr, NamesGivePrefixes, PrefixesComeBack, TextsComeBack, AddressesArePrefixes, AddressesComeBack}
-- Special-use zones, and what gives a name.
pub use Rattle.dnw_name_zones.specs.Usages.{Zone}
pub use Rattle.dnw_name_zones.specs.Zones.{reverse_zone, test_zone, localhost_zone, local_zone, invalid_zone, example_zone, usual_zone, onion_zone}
pub use Rattle.dnw_name_zones.specs.Zones.{default_value, localhost_value, in_addr_arpa_127_value, ip6_arpa_1_value, local_value, in_addr_arpa_169_254_value}
pub use Rattle.dnw_name_zones.specs.Zones.{ip6_arpa_fe_8_value, ip6_arpa_fe_9_value, ip6_arpa_fe_b_value, invalid_value, onion_value}
pub use Rattle.dnw_name_zones.specs.AddressTexts.{ReadsIp}
-- Reading a message.
pub use Rattle.dnw_base.specs.Decoder.{Decoder, Takes, TakesCopy, advanced, next_bytes}
pub use Rattle.dnw_name_read.specs.Reading.{Reads, Stops, NameAt, FaultAt, TakesName, StopsAt, target}
pub use Rattle.dnw_name_read.specs.Buffers.{put}
pub use Rattle.dnw_name.specs.Decodable.{LacksBytes, StopsSomehow, TakesU16, TakesU32, TakesI32, TakesNameValue}
pub use Rattle.dnw_name_read.specs.ReadingLaws.{NameOrFault, NotBoth, OneName, OneFault, ReadsBack, StandsBefore, StandsWider}
pub use Rattle.dnw_name_read.specs.ReadingLaws.{NameSteps, FaultSteps, OwnOctets}
-- Writing a message.
pub use Rattle.dnw_write.specs.EncoderValue.{value, lender}
pub use Rattle.dnw_write.specs.Encoder.{CandidatesPrecede, Encoder, fresh, Writes, WritesText, TakesRoom, HasRoom, HoldsOctets, Stores}
pub use Rattle.dnw_write.specs.Encoder.{reserved, trimmed, mode_of_rdata, usual_candidates, usual_names}
pub use Rattle.dnw_write.specs.Emitting.{Outcome, Emits, Frame, InTurn, EmitsAt, EmitsItem, EmitsItems, FillsPlace, WritesLen, FailsUnchanged}
pub use Rattle.dnw_write.specs.declared.encoder.modes.NameEncoding.TheVariants.{Compressed, Uncompressed, UncompressedLowercase}
pub use Rattle.dnw_write.specs.EmittingLaws.{frame, fails_unchanged}
pub use Rattle.dnw_write.specs.EmittedName.{EmitsName, EmitsLabels, pointer_to}
pub use Rattle.dnw_write.specs.NameFrames.{frame_name}
pub use Rattle.dnw_write.specs.Guards.{Guards, guarded, former}
pub use Rattle.dnw_write.specs.Marks.{MarkValue, mark_of, rewound, RewindingUndoes}
pub use Rattle.dnw_write_suffixes.specs.Candidates.{Finds, FindsUsable, suffixes}
pub use Rattle.dnw_write.specs.EncoderLaws.{NameComesBack, NameIsRead, NamesTakeNoMore, PointersSave, FramesFollow, ItemsKeepFrame}
pub use Rattle.dnw_write.specs.EncoderLaws.{FillsTakeNoMemory, FillsStayBounded, ItemsStayBounded, NamesStayBounded, PlacesStayBounded, WritesStayBounded}
pub use Rattle.dnw_write.specs.EncoderLaws.{StaysBounded}
pub use Rattle.dnw_write.specs.CandidateLaws.{KeepsPreceding, NewPrecede, WritesPrecede, TextsPrecede, PlacesPrecede, FillsPrecede, NamesPrecede}
pub use Rattle.dnw_write.specs.CandidateLaws.{StoresPrecede, TrimsPrecede, RewindsPrecede, ItemsPrecede, ItemPrecedes}
-- Resource records.
pub use Rattle.dnw_record.specs.Records.{RecordValue, RecordAt, record_of, TakesRecord, FailsRecord, HasDataName, FailsDataName, data_octets}
pub use Rattle.dnw_write_script.specs.declared.wire_record.WireRecord.{WireRecord}
pub use Rattle.dnw_write_script.specs.WrittenRecords.{EmitsData, EmitsRecord, NumbersFit}
pub use Rattle.dnw_write_script.specs.RecordFrames.{frame_data, frame_record}
pub use Rattle.dnw_write_script.specs.RecordLaws.{RefusedRecordsUndo, RefusedDataUndo}
pub use Rattle.dnw_write_script.specs.RecordLaws.{PartPrecedes, PartsPrecede, CountedPrecede, DataPrecede, RecordsPrecede}
pub use Rattle.dnw_write_script.specs.RecordLaws.{KeepsBounded, PartStaysBounded, PartsStayBounded, CountedStayBounded, DataStayBounded, RecordsStayBounded}
pub use Rattle.dnw_write_script.specs.Parts.{WirePart, EmitsWirePart, EmitsWireParts, EmitsCounted, HasTextOfSize, parts_size, wire_size}
-- The fields of the data of records.
pub use Rattle.dnw_record.specs.RecordFields.{record_fields}
-- Scripts.
pub use Rattle.dnw_write_script.specs.Script.{Action, action, write_record, EmitsPart, EmitsScriptItem}
pub use Rattle.dnw_write_script.specs.declared.script.Reply.{Reply}
pub use Rattle.dnw_write_script.specs.declared.script.Reply.TheVariants.{Done, Refused}
pub use Rattle.dnw_write_script.specs.Pieces.{Account, Piece, RecordStands, opening}
pub use Rattle.dnw_write_script.specs.Replies.{RepliesTo}
pub use Rattle.dnw_write_script.specs.Finished.{Finished, Shortest, largest_max}
pub use Rattle.dnw_write_script.specs.Runs.{Run}
pub use Rattle.dnw_write_script.specs.Ran.{Ran}
pub use Rattle.dnw_write_script.specs.ItemFrames.{frame_part, frame_item}
pub use Rattle.dnw_write_script.specs.ScriptLaws.{RunsReply, RunsFinish, RunsStayUseful, RunsAreShortest, RunsUndoRecords, HasData, StandingRecordsAreRead}
pub use Rattle.dnw_write_script.specs.ScriptLaws.{RunsStayBounded, PartsOfScriptsStayBounded, ItemsOfScriptsStayBounded}
-- Master files: tokens, and times to live.
pub use Rattle.dnw_zone_lexer.specs.Tokens.{TokenValue, LexFault, LexState, LexerValue}
pub use Rattle.dnw_zone_lexer.specs.Lexing.{token_value, Lexes, Calls, EndsInTime}
pub use Rattle.dnw_zone_lexer.specs.Times.{max_ttl, time_seconds, IsNoTtl, IsParseTime}
-- Sets of record types, keys, serial numbers, and record data.
pub use Rattle.dnw_data.specs.TypeSets.{AreWindows, EndWithin, HasBit, IsSetOf, Window, bitmap_types, set_codes, windows_codes, windows_of, windows_within}
pub use Rattle.dnw_data.specs.TypeSets.{HasOwnMemory, YieldsSome}
pub use Rattle.dnw_name_zones.specs.Keys.{key_cmp, key_eq, key_hash}
pub use Rattle.dnw_base.specs.Serials.{distance, serial_cmp, serial_sum}
pub use Rattle.dnw_data.specs.RecordData.{TakesTypeSet, FailsTypeSet, TypeSetRunsOut, HasBitmap}
pub use Rattle.dnw_data.specs.SetLaws.{BitmapsAreWindows, BitmapsListFew, SetsComeBack, WindowsListBits, most_types}
-- What follows from the definitions of texts.
pub use Rattle.dns_names_wire.specs.TextLaws.{AreByteLabels, TextsDiffer, ReadLabelsAreBytes, TextLabelsAreBytes}
pub use Rattle.dns_names_wire.specs.TextLaws.{AcceptedLabels, AcceptedReadBack, qualified, dotted_text, BytesAndTextsAgree}
-- The data of records: kinds of field, the table of types, and reading by it.
pub use Rattle.dnw_data.specs.DataLaws.{FieldsAreWalked, OneReading, SomeReading}
pub use Rattle.dnw_data.specs.FieldWires.{AppendsWire, IsFieldValue, IsLong, field_wire}
pub use Rattle.dnw_data.specs.Fields.{FailsField, FailsName, FailsOwn, TakesField, TakesNameField, TakesOwn}
pub use Rattle.dnw_data.specs.Items.{NextItem}
pub use Rattle.dnw_data.specs.Lists.{ItemsValue, count_of, item_size, list_fault, may_come, out_of_order, tag_of}
pub use Rattle.dnw_data.specs.Shapes.{FailsShape, IsShaped, ShapedValue, shape_fault, shape_size}
unfoldable pub use Rattle.dnw_data.specs.Table.{are_names_decompressed, fields_of, is_internet_type}
pub use Rattle.dnw_data.specs.Values.{FieldValue, counted_size, own_fault, own_size, own_value, seen}
pub use Rattle.dnw_data.specs.Walks.{FieldsAre, FieldsLeft, IsEnded, NextField, fields_at, steps_left}
-- Texts of single values.
pub use Rattle.dnw_zone_values.specs.Numbers.{IsNumberText, max_u16, max_u32, max_u48, max_u8}
pub use Rattle.dnw_zone_values.specs.Octets.{IsBase64Text, IsHexText, IsOctets, IsSalt, IsSaltText, base64_text, hex_text, salt_text}
pub use Rattle.dnw_zone_values.specs.Spelling.{Appends, ComesBack}
pub use Rattle.dnw_zone_values.specs.Base32.{IsHash, IsHashText, base32_octets, base32_text, base32_value, is_base32}
pub use Rattle.dnw_zone_values.specs.Pairs.{IsIdentifier, IsPairsText, pairs_octets, pairs_text}
pub use Rattle.dnw_zone_values.specs.Prefixes.{IsPrefixText, PrefixesAreUnambiguous, PrefixTextsComeBack, prefix_text}
pub use Rattle.dnw_zone_values.specs.Locators.{IsLocatorText, locator_text}
pub use Rattle.dnw_zone_values.specs.Nsap.{IsNsapText, nsap_text}
pub use Rattle.dnw_zone_values.specs.Strings.{IsLongText, IsString, IsStringText, IsText, IsTextWithin, Plain, octet_text}
pub use Rattle.dnw_zone_values.specs.Strings.{octets_from, quote, string_octets, string_text}
pub use Rattle.dnw_zone_values.specs.Tags.{IsTag, IsTagText}
pub use Rattle.dnw_zone_values.specs.Strings.{with_octet}
pub use Rattle.dnw_zone_values.specs.Times.{IsDateText, IsDay, IsMoment, IsTimeText, time_count, two_at}
-- Texts of the data of records.
pub use Rattle.dnw_zone_data.specs.NumberForms.{IsNumberIn, IsPeriod}
unfoldable pub use Rattle.dnw_zone_data.specs.NumberForms.{number_forms}
pub use Rattle.dnw_zone_data.specs.declared.number_form.NumberForm.{NumberForm}
pub use Rattle.dnw_zone_data.specs.DataTexts.{ArePlain, FailsText, IsDataText, IsPlainData, IsTextOf, stand_in, text_kinds}
pub use Rattle.dnw_zone_data.specs.Generic.{generic_text, IsGeneric}
pub use Rattle.dnw_zone_record.specs.RecordEntries.{FailsRecordEntry, IsRecordEntry}
pub use Rattle.dnw_zone_record.specs.RecordLines.{FailsRecordLine, IsRecordLine, line_octets, record_line}
pub use Rattle.dnw_zone_data.specs.declared.error.DataTextError.{DataTextError}
pub use Rattle.dnw_zone_data.specs.declared.error.DataTextError.TheVariants.{Memory as OutOfMemory}
-- Service parameters as text.
pub use Rattle.dnw_zone_values.specs.Params.{ParamValue, in_key_order, params_wire}
pub use Rattle.dnw_zone_values.specs.ParamTexts.{param_text, params_text}
pub use Rattle.dnw_zone_values.specs.Mandatory.{keeps_mandatory}
pub use Rattle.dnw_zone_values.specs.ParamWords.{IsParam}
pub use Rattle.dnw_zone_values.specs.ParamLaws.{IsParamValue, ParamsComeBack}
pub use Rattle.dnw_zone_data.specs.DataTextLaws.{FieldAddressesComeBack, FieldBitmapsComeBack, CountedComeBack, FieldIdentifiersComeBack, FieldLocatorsComeBack, FieldNamesComeBack, FieldPrefixesComeBack, NameListsComeBack, NumbersComeBack, OctetsComeBack, SegmentsComeBack, ShapesComeBack, StringsComeBack, TypesComeBack}
pub use Rattle.dnw_zone_data.specs.DataTextLaws.{DataAreUnambiguous, DataComeBack, GenericComesBack, GenericIsParsed, ListsComeBack, PrintedDataAreSame, TextsAreParsed, IsFieldReadBack, FieldComesBack, FollowsField, IsReadType, IsDataOctets}
pub use Rattle.dnw_zone_record.specs.RecordTextLaws.{LinesAreUnambiguous, LinesComeBack, PrintedLinesAreSame, line_head}
-- Zone files, read and written.
pub use Rattle.dnw_zone_file.specs.declared.context.Context.{Context}
pub use Rattle.dnw_zone_file.specs.declared.zone_text.OwnedRecord.{OwnedRecord}
pub use Rattle.dnw_zone_file.specs.declared.zone_text.ZoneTextError.{ZoneTextError}
pub use Rattle.dnw_zone_file.specs.Contexts.{IsFirst, class_after, minimum_after, record_ttl, ttl_after, with_minimum, with_origin, with_record, with_ttl}
pub use Rattle.dnw_zone_file.specs.Heads.{is_zone_class, is_zone_type, max_zone_ttl}
pub use Rattle.dnw_zone_file.specs.Entries.{FailsEntry, IsEntry}
pub use Rattle.dnw_zone_file.specs.Steps.{IsStep}
pub use Rattle.dnw_zone_file.specs.ZoneTexts.{BeginsWithRecords, FailsZoneText, IsZoneText, LacksEntry, TakesEntry, records_of_entry}
pub use Rattle.dnw_zone_file.specs.Written.{AppendsLine, AreOfType, IsOfZone, IsSameRecord, written_line, written_head}
pub use Rattle.dnw_zone_file.specs.WriterLaws.{HasDataOctets, IsWrittenRecord, LinesAreEntries, LinesAreReadBack}
pub use Rattle.dnw_zone_file.specs.ShortLines.{AppendsOrigin, AppendsShort, AppendsTtl, IsBefore, IsShortName, IsShortOwner, IsShortText, origin_line, short_head, short_line, short_rest, short_ttl, ttl_line}
pub use Rattle.dnw_zone_file.specs.WriterLaws.{IsWrittenZone, NothingIsWritten, OriginsAreAdded, OriginsAreEntries, ZoneRecordsAreAdded, ShortLinesAreEntries, ShortLinesAreReadBack, TtlsAreAdded, TtlsAreEntries, WrittenTextsAreRecords}
pub use Rattle.dnw_zone_checks.specs.Findings.{check_number, finding, is_error, listed}
pub use Rattle.dnw_zone_checks.specs.HostNames.{is_host_label, is_host_name}
pub use Rattle.dnw_zone_checks.specs.Checks.{AreFindings, AreFindingsFrom, AreOfServer, FailsCheck, IsNameAfter, IsOutOfOrder, IsRecordFindings, IsServer, apex_findings, own_findings, server_findings}
unfoldable pub use Rattle.dnw_zone_checks.specs.Checks.{OwnersAreInOrder, first_at, is_in, is_same}
-- Whole messages: headers, sections and EDNS.
pub use Rattle.dnw_message_read.specs.HeaderLaws.{HeaderFits, HeadersReadBack, HeadersWriteBack}
pub use Rattle.dnw_message_read.specs.Headers.{TakesHeader, flag, flags_of, header_of, header_size, header_wire, is_set, metadata_of}
pub use Rattle.dnw_message_read.specs.OpCodes.{op_code, op_entry, op_of_code}
pub use Rattle.dnw_message_read.specs.ResponseCodes.{response_code, response_entry, response_of_code}
pub use Rattle.dnw_message_read.specs.declared.response_code.ResponseCode.{ResponseCode}
pub use Rattle.dnw_message_read.specs.declared.response_code.ResponseCode.TheVariants.{FormErr, NoError, NotImp, NXDomain, Refused as RefusedCode, YXDomain}
pub use Rattle.dnw_message_read.specs.Responses.{response_to}
pub use Rattle.dnw_message_read.specs.Edns.{EdnsValue, FailsEdns, FailsOnlyOpt, FailsOpt, HasEdns, HasOpt, HasOptions, IsEdns, IsResponseCode, OptionValue}
pub use Rattle.dnw_message_read.specs.Edns.{OptsAre, first_option, is_opt, opts_in, opts_outside}
pub use Rattle.dnw_message_read.specs.MessageLaws.{MessagesDontFail, OneMessage, OneMessageError}
pub use Rattle.dnw_message_read.specs.Messages.{FailsHere, FailsItem, FailsMessage, FailsWithin, Item, ItemAt, ItemsAt, MessageAt, MessageValue}
pub use Rattle.dnw_message_read.specs.Messages.{QueryValue, SectionAt, SectionsBegin, no_header, part, question_rest, record_rest, rest_of}
pub use Rattle.dnw_message_read.specs.Queries.{FailsQuery, TakesQuery}
-- EDNS options, typed.
pub use Rattle.dnw_message_read.specs.Codes.{named_options, option_code, option_of_code}
pub use Rattle.dnw_message_read.specs.OptionLaws.{OneOption, OptionsComeBack}
pub use Rattle.dnw_message_read.specs.Reading.{IsName, NoName, OptionOutcome, ReadsAnyOption, ReadsChainOption, ReadsNameOption, ReadsOption, checked, cookie_of, error_of, expire_of, keepalive_of, subnet_of, version_of}
pub use Rattle.dnw_message_read.specs.Texts.{address_text, count_text, error_name, error_text, extra_text, gap, is_shown_family, named_text, network_text, octets_text, option_text, padding_text, octet_digits, digits_text, period_text, printable_text, segment_at, shown_char, shown_text, turns_text, unnamed_text}
pub use Rattle.dnw_message_read.specs.Rules.{IsOptionFields, bits_after, code_of, has_no_name, may_be_server, may_be_version, most_bits, network_fault, octets_for, option_octets, value_fault}
pub use Rattle.dnw_message_read.specs.Values.{OptionFields, VersionValue, seen_option, seen_version}
-- Whole messages that are written.
pub use Rattle.dnw_message_read.specs.declared.header.HeaderCounts.{HeaderCounts}
pub use Rattle.dnw_message_read.specs.declared.header.Metadata.{Metadata}
-- the data of records of any type, and records that are written from them
pub use Rattle.dnw_record.specs.declared.record.Record.{Record}
pub use Rattle.dnw_record.specs.declared.rdata.RDataError.{RDataError}
pub use Rattle.dnw_record.specs.declared.from_fields.FromFieldsError.{FromFieldsError}
pub use Rattle.dnw_record.specs.DataPieces.{ArePiecesOf, DataPiece, DataValue, HasPieces, IsData, IsDataOfType, data_kinds, kinds_of, octets_of, piece_octets}
pub use Rattle.dnw_record.specs.DataCopies.{Copies, FailsToCopy, TakesPiece, TakesPieces, alone, data_start, kinds_at, record_kinds}
pub use Rattle.dnw_record.specs.GivenFields.{AreFieldsOf, FailsGivenFields, IsFieldOf, front, front_of, given_kinds}
pub use Rattle.dnw_write_script.specs.WireRecords.{HaveNameAndOthers, HaveNoName, IsOfWireRecord, SaysData, SaysRecord, encoding_of, is_name, wire_data_octets}
pub use Rattle.dnw_record.specs.OwnedRecords.{IsCopyOf, name_of}
pub use Rattle.dnw_record.specs.PieceLaws.{DataHaveFields, piece_value, piece_values}
-- the pointers that names in data follow
pub use Rattle.dnw_record.specs.DataPointers.{FieldFollows, IsNoField, TakesAllPointers, TakesDataPointers, TakesPointers}
pub use Rattle.dnw_message_read.specs.DataPointers.{records_of}
-- records in canonical form
pub use Rattle.dnw_signed.specs.declared.error.CanonicalError.{CanonicalError}
pub use Rattle.dnw_signed.specs.CanonicalData.{IsCanonical, canonical_piece, canonical_pieces}
pub use Rattle.dnw_signed.specs.RecordSets.{AreCanonical, FailsSetFrom, FailsSet, FirstOther, IsMember, IsOfSet, IsRecordSet, IsSet, IsInOrder}
pub use Rattle.dnw_signed.specs.RecordSets.{set_head, set_record, signed_owner}
pub use Rattle.dnw_signed.specs.SignedFields.{FailsSignedFields, IsRrsig, IsSignedFields}
pub use Rattle.dnw_signed.specs.CanonicalLaws.{AreAmong, DependsOnSet, IsLike, IsLikeData, KeepsInAnyOrder}
-- sums of DNSSEC
pub use Rattle.dnw_signed.specs.declared.error.DnssecError.{DnssecError}
pub use Rattle.dnw_signed.specs.KeyTags.{FailsKeyTag, HasKeyTag, IsDnskey, algorithm_of, key_tag, modulus_tag, sum_tag, word_sum}
pub use Rattle.dnw_signed.specs.Digests.{FailsDsDigest, IsDsDigest, ds_hash, ds_input}
pub use Rattle.dnw_signed.specs.HashedNames.{FailsToHash, MayHash, iterated_hash, nsec3_hash, nsec3_label}
pub use Rattle.dnw_signed.specs.Covers.{Nsec3Covers, NsecCovers}
pub use Rattle.dnw_signed.specs.ZoneDigests.{AreDigested, AreZoneOctets, FailsZoneDigest, FirstTooLong, HasShortData, HoldsDigest, IsDigested, IsZoneDigest, IsZoneHash, IsZoneOrder, IsCanonicalRecord, CanonicalRecord}
pub use Rattle.dnw_signed.specs.ZoneDigests.{is_duplicate, is_of_zonemd, place_cmp, zone_cmp, zone_hash, zone_record}
-- Messages that are written item by item into a buffer, and what is read of them.
pub use Rattle.dnw_message_writer.specs.Contents.{AddedItems, AddedQuestion, AddedRecord, HoldsItems, KeepsItems, PieceStands, PiecesStand, QuestionFits, ReadsAsQuestion, ReadsAsRecord, RecordFits}
pub use Rattle.dnw_message_writer.specs.Contents.{cut_flags, fields_before, items_of_section, most_followed, no_items, with_data, with_question, with_records}
pub use Rattle.dnw_message_writer.specs.ContentLaws.{BegunMessagesAreEmpty, CutMessagesHold, LastRecordsAreAdded, QuestionsAreAdded, RecordsAreAdded, SetsAreAdded, UnchangedMessagesHold}
pub use Rattle.dnw_message_writer.specs.ReadItems.{AreNameAlone, AreOctetsAlone, DataNamesAreRead, HasItems, HeldItemsAreRead, HeldItemsNeverFail, IsAddedQuestion, IsAddedRecord}
pub use Rattle.dnw_message_writer.specs.ReadItems.{OctetsAreRead, ReadMessagesHaveItems, counts_of_items, item_count}
pub use Rattle.dnw_message_writer.specs.SizeLaws.{QuestionsTakeNoMore, RecordsTakeNoMore, whole_pieces, whole_question, whole_record}
pub use Rattle.dnw_message_writer.specs.CompressedNames.{Compresses, FindsHint, FindsNoHint, former_hint, kept_hints, later_hint, MayPointTo, pointer_octets, put_at, PutsForm, PutsPast, spelled}
pub use Rattle.dnw_message_writer.specs.ContentLaws.{given_form, GivenRecordsAreAdded}
pub use Rattle.dnw_message_writer.specs.Copying.{AreASet, AreOfOneKind, AreOfOneSet, CopiesBody, CopiesHeld, CopiesMessage, CopiesQuestions, CopiesSections, CopiesSets, copied_past, CopyFits, EndsBefore}
pub use Rattle.dnw_message_writer.specs.Copying.{FailsBody, FailsHeld, FailsQuestions, StopsAtQuestion, FailsSections, FailsSets, FailsToAddCopy, FailsToAddQuery, FailsToCopyMessage, FollowsFew, StopsAmong}
pub use Rattle.dnw_message_writer.specs.Copying.{StandWhole, StopsInSet}
pub use Rattle.dnw_message_writer.specs.Copying.{copied_form, covers_no_type, FailsToHold, held_in, HoldsFor, is_held, IsWholeSize, lacks_half_of, lacks_of, lacks_record_of, lacks_some, left_out_of, MayNotMiss, Misses, query_form, section_records, sets_of, signs_message, size_with, there_of}
pub use Rattle.dnw_message_writer.specs.CopyLaws.{AreItemsOf, AreTheFirst, CopiesHold, IsCopiedQuestion, IsCopiedRecord, is_missing_of, AreNotHalved, HasWholeSets, IsAmong, SetsAreWhole}
pub use Rattle.dnw_message_writer.specs.Data.{AreOfData, StartsNoName}
pub use Rattle.dnw_message_writer.specs.Edns.{AddsOpt, AddsOptItem, FailsToAddOpt, FailsToAddOptItem, opt_data, opt_size, padding, ttl_of_edns}
pub use Rattle.dnw_message_writer.specs.Hints.{slot_of}
pub use Rattle.dnw_message_writer.specs.Items.{fields_of_record, IsNear, IsOwner, IsQuestion, IsRecord, ItemForm, ItemPast, QuestionGoesPast, RecordGoesPast}
pub use Rattle.dnw_message_writer.specs.Items.{question_form, question_past, record_form, record_past}
pub use Rattle.dnw_message_writer.specs.ListEnds.{AddsEnds, AddsListed, AddsOptAs, AddsOptEnd, AddsSignature, AddsWhole, FailsToAddEnds, FailsToAddListed, FailsToAddOptAs, FailsToAddOptEnd, FailsToAddSignature, FailsToAddWhole, SaysWithCode}
pub use Rattle.dnw_message_writer.specs.ListEnds.{has_such, held_by, is_put_last, no_ends, of_second, says_edns, size_of_end, whole_item, with_end}
pub use Rattle.dnw_message_writer.specs.ListFills.{AddsInTurn, AddsNext, FailsToAddNext, FailsToFill, FillsFrom, FillsOr}
pub use Rattle.dnw_message_writer.specs.ListItems.{need_octet, question_item, head_of_record, record_item}
pub use Rattle.dnw_message_writer.specs.ListResults.{FailsToAddForm, StaysAsItWas, error_of_data, error_of_write}
pub use Rattle.dnw_message_writer.specs.Lists.{AddsRecords, AddsRun, BeginsWithOctet, FailsToAddRecords, FailsToBegin, FailsToWriteNext, FailsToScan, FailsToWriteList, WritesNext, WritesFrom, HasNoListed, IsBadList, IsHalfListed, IsHalved}
pub use Rattle.dnw_message_writer.specs.Lists.{IsLeftOut, IsNoEnd, IsNoItem, IsNoOctet, IsNoneOfSet, IsOctetOf, IsOfRun, LacksListed, PassesEnd, Progress, ScansItem, ScansList, ScansRecord, ScansTo, Starts, TakesListed, TakesQuestion, WritesItems, WritesListOr}
pub use Rattle.dnw_message_writer.specs.Lists.{has_to_be_there, is_bare, is_server_out, left_with, nothing_left_out, pairs_left, place_of, progress, progress_at, question_octet, what_is_there, with_code}
pub use Rattle.dnw_message_writer.specs.Listed.{data_form, data_past, FailsListed, FailsToAddData, ListsData}
pub use Rattle.dnw_message_writer.specs.NameLaws.{CompressedNamesTakeNoMore, KeepsSettled, WrittenNamesAreRead}
pub use Rattle.dnw_message_writer.specs.Needs.{are_beside, are_the_same, has_data_below, has_half, has_half_in, has_required, halves, holding, holding_all, is_answered, is_half_after, is_half_there, is_of_address, last_data, most_pairs, set_type, signs_set, with_all_asked, with_asked, is_below, is_below_cut, is_glue, is_extra, is_of_query, is_request, is_required, is_required_in, is_server, is_transfer, is_uncut, purpose_by, purpose_of, signs_servers}
pub use Rattle.dnw_message_writer.specs.Padded.{CopiesAndPads, CopiesEnds, CopiesOpt, CopiesPadded, CopiesSignatures, FailsEnds, FailsSignatures}
pub use Rattle.dnw_message_writer.specs.Padded.{FailsToCopyOpt, FailsToCopyPadded, has_padding, IsNotToPad, IsToPad, SaysAs, signatures_in}
pub use Rattle.dnw_message_writer.specs.Pieces.{ArePieces, GoesPast, IsPiece}
pub use Rattle.dnw_message_writer.specs.Queries.{AddsSize, BeginsQuery, FailsToAddSize, FailsToQuery, query_flags}
pub use Rattle.dnw_message_writer.specs.ReadItems.{GivenDataComeBack}
pub use Rattle.dnw_message_writer.specs.Replies.{AsksOf, BeginsReplyTo, FailsToReply, badvers_code, formerr_code, notimp_code, reply_code, reply_flags, takes_records}
pub use Rattle.dnw_message_writer.specs.Sections.{offset_of_count, rank}
pub use Rattle.dnw_message_writer.specs.Sets.{cut_off, CutsOff, FailsToAddSet}
pub use Rattle.dnw_message_writer.specs.SizeLaws.{IsPlainPiece, HintsAtLabels, HintsBegin, IsNearNext, LastRecordsAreWhole, NearOwnersTakeTwo, QuestionsAreNear, RecordsAreNear}
pub use Rattle.dnw_message_writer.specs.States.{added, AddsItem, AddsLastItem, BeginsMessage, FailsToAdd, for_last, IsLimit, IsOfMessage, IsSingle, more_octets, released, room_of}
pub use Rattle.dnw_message_writer.specs.declared.section.Section.TheVariants.{Additionals, Answers, Authorities, Queries}
pub use Rattle.dnw_message_writer.specs.declared.state.WriterState.{WriterState}
